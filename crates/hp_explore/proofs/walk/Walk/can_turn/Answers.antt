use Rattle.std.proofs.Common.{◌≡◌, ap, sym, ◌∙◌}
use Rattle.std.specs.Prelude.{Option, Some, is_some}
use Rattle.hp_machine.specs.declared.phase.Phase.{Phase}
use Rattle.hp_core.specs.Readers.{phase_of}
use Rattle.hp_watch.proofs.Phases.{not_so, waits_not}
use Rattle.hp_explore.proofs.Runnable.{free_can, held_cannot}
use Rattle.hp_explore.proofs.walk.Walk.can_turn.Goals as goal

pub returns-then-not-may_wait-clause-can : goal.returns-then-not-may_wait-clause-can
returns-then-not-may_wait-clause-can c =
    λ goes.
    let w = c.args.self.now in
    let t = c.args.task in
    let at : phase_of w.core t ≡ Some c.in-Some.at = sym c.phase.ensures ∙ c.in-Some.is in
    free_can c.args.plan.now w t (ap (λ (o : Option Phase). is_some o) at)
    (waits_not w.core t c.in-Some.at at (sym c.may_wait.ensures ∙ not_so c.may_wait.result goes))

pub returns-else-not-may_wait-clause-cannot : goal.returns-else-not-may_wait-clause-cannot
returns-else-not-may_wait-clause-cannot c =
    λ held.
    let w = c.args.self.now in
    let t = c.args.task in
    let at : phase_of w.core t ≡ Some c.in-Some.at = sym c.phase.ensures ∙ c.in-Some.is in
    let by = c.is_free.ensures.held held in
    held_cannot c.args.plan.now w t by.0 (ap (λ (o : Option Phase). is_some o) at) by.1
