use Rattle.hp_machine.specs.Events.{StepRow}
use Rattle.hp_counterexamples.proofs.the_right_rows_are_the_machine.Goals as goal

pub returns-clause-calls : goal.returns-clause-calls
unfolding StepRow
returns-clause-calls c = λ s n events. (λ r. r, λ r. r)

pub returns-clause-resizes : goal.returns-clause-resizes
returns-clause-resizes c = λ s n events. (λ r. r, λ r. r)
