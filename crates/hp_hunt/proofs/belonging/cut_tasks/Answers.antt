use Rattle.std.proofs.Common.{subst}
use Rattle.hp_hunt.specs.Cutting.{IsSubsequence}
use Rattle.hp_hunt.proofs.Cuts.{all_left, kept_left, kept_meets}
use Rattle.hp_hunt.proofs.belonging.cut_tasks.Goals as goal

pub loop-number-init : goal.loop-number-init
loop-number-init g c = record { left = all_left c.args.events.now.items; meets = c.requires }

pub loop-number-preserved : goal.loop-number-preserved
loop-number-preserved g c =
    let mid = c.loop-number.events.items in
    let left = c.in_ok-left.left.items in
    let new = c.keep_if_met.new.events.items in
    let done = c.in_ok-keep_if_met.field-0 in
    let told = c.in_ok-keep_if_met.ensures in
    record {
      left = kept_left c.args.events.now.items mid left new done (λ e. (told.taken e).0) (λ e. (told.kept e).0)
          (subst (IsSubsequence left) c.as_slice.ensures.value c.in_ok-left.ensures)
          c.loop-number.invariant.left;
      meets = kept_meets c.args.config c.args.conditions.now mid left new done (λ e. told.taken e) (λ e. (told.kept e).0)
          c.loop-number.invariant.meets;
    }
