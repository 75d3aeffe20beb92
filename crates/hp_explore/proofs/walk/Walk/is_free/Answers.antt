use Rattle.std.proofs.Common.{ℕ, ap, ◌∙◌, subst}
use Rattle.std.specs.Prelude.{not, Option, Some}
use Rattle.hp_core.specs.Waiting.{WaitsFor}
use Rattle.hp_explore.specs.Schedule.{World}
use Rattle.hp_watch.proofs.Phases.{some_holder}
use Rattle.hp_explore.proofs.walk.Walk.is_free.Goals as goal

pub returns-clause-held : goal.returns-clause-held
returns-clause-held c =
    λ held.
    let some = some_holder c.waits_for.result (c.is_none.ensures ∙ ap not held) in
    let waits = subst (λ (o : Option ℕ). WaitsFor c.self.inside.core c.new.result o) some.1 c.waits_for.ensures in
    let seen = subst (λ (n : ℕ). WaitsFor c.self.inside.core n (Some some.0)) c.new.ensures waits in
    (some.0, subst (λ (v : World). WaitsFor v.core c.args.task (Some some.0)) c.self.view_is seen)
