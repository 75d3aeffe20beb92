-- The outcome tells where the task's call stands then, and the calls of the other tasks stand where they stood.
use Rattle.std.proofs.Common.{ap, sym, ◌∙◌}
use Rattle.std.proofs.lemmas.List.{length-set}
use Rattle.hp_base.specs.Text.{Sizes}
use Rattle.hp_core.specs.Readers.{phase_of}
use Rattle.hp_watch.proofs.Phases.{outcome_agrees, phases_after}
use Rattle.hp_explore.proofs.walk.Walk.apply.Goals as goal

pub phase_after-requires-clause-agrees : goal.phase_after-requires-clause-agrees
phase_after-requires-clause-agrees c =
    outcome_agrees c.self.inside.core c.step.new.self c.args.event.now c.in_ok-outcome.outcome c.new.result c.is_reached.ensures
    c.in_ok-outcome.ensures.row (λ u is. c.requires.alone u is ∙ sym c.new.ensures)

pub invariant_of-self-2 : goal.invariant_of-self-2
invariant_of-self-2 c = record {
  few = c.self.invariant.few;
  tasks = ap (λ (z : Sizes). z.tasks) c.in_ok-outcome.ensures.config ∙ c.self.invariant.tasks;
  long = length-set c.self.inside.phases.items _ c.phase_after.result ∙ c.self.invariant.long;
  phases = phases_after c.self.inside.core c.step.new.self c.args.event.now c.in_ok-outcome.outcome c.args.task c.self.inside.phases.items
      c.phase_after.result c.in_ok-outcome.ensures.row c.requires.alone c.requires.task.0
      (c.phase_after.ensures ∙ ap (phase_of c.step.new.self) c.new.ensures) c.self.invariant.phases;
}
