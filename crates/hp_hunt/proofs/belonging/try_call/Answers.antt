use Rattle.std.proofs.Common.{subst}
use Rattle.hp_hunt.specs.Cutting.{IsSubsequence}
use Rattle.hp_hunt.proofs.Cuts.{all_left, kept_left, kept_meets}
use Rattle.hp_hunt.proofs.belonging.try_call.Goals as goal

pub returns-in_default-clause-left : goal.returns-in_default-clause-left
returns-in_default-clause-left g c = all_left c.args.events.now.items

pub returns-clause-left : goal.returns-clause-left
returns-clause-left g c =
    let old = c.args.events.now.items in
    let told = c.in_ok-keep_if_met.ensures in
    kept_left old old c.in_ok-left.left.items c.keep_if_met.new.events.items c.in_ok-keep_if_met.field-0
    (λ e. (told.taken e).0) (λ e. (told.kept e).0)
    (subst (IsSubsequence c.in_ok-left.left.items) c.as_slice-2.ensures.value c.in_ok-left.ensures) (all_left old)

pub returns-clause-meets : goal.returns-clause-meets
returns-clause-meets g c =
    let told = c.in_ok-keep_if_met.ensures in
    kept_meets c.args.config c.args.conditions.now c.args.events.now.items c.in_ok-left.left.items c.keep_if_met.new.events.items
    c.in_ok-keep_if_met.field-0 (λ e. told.taken e) (λ e. (told.kept e).0) c.requires
