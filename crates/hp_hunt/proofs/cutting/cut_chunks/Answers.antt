use Rattle.std.proofs.Common.{◌≤◌, ◌+◌, ◌-◌, length, arith}
use Rattle.hp_hunt.proofs.Cuts.{all_left, step_left, step_meets, step_within}
use Rattle.hp_hunt.proofs.cutting.cut_chunks.Goals as goal

pub loop-place-init : goal.loop-place-init
loop-place-init g c = record { within = omega (arith, c.len-place.ensures); left = all_left c.args.events.now.items; meets = c.requires.meets }

pub loop-place-preserved : goal.loop-place-preserved
loop-place-preserved g c =
    let mid = c.loop-place.events.items in
    let new = c.try_cut.new.events.items in
    let from = c.saturating_sub-from.result in
    let len = c.loop-place.place - from in
    let done = c.in_ok-try_cut.field-0 in
    let was = c.loop-place.invariant in
    let within : from + len ≤ length mid = omega (arith, c.saturating_sub-from.ensures, was.within) in
    record {
      within = step_within mid new from len done within (λ e. (c.in_ok-try_cut.ensures.dropped e).0) (λ e. (c.in_ok-try_cut.ensures.kept e).0);
      left = step_left c.args.events.now.items mid new from len done (λ e. (c.in_ok-try_cut.ensures.dropped e).0)
          (λ e. (c.in_ok-try_cut.ensures.kept e).0) was.left;
      meets = step_meets c.args.config c.args.conditions.now mid new done (λ e. (c.in_ok-try_cut.ensures.dropped e).1)
          (λ e. (c.in_ok-try_cut.ensures.kept e).0) was.meets;
    }
