use Rattle.std.proofs.Common.{refl}
use Rattle.hp_machine.specs.Headline.{Agrees}
use Rattle.hp_counterexamples.specs.Runs.{small, with_calls}
use Rattle.hp_counterexamples.specs.Locking.{PunchesEarly, punch_early_run}
use Rattle.hp_counterexamples.proofs.Running.{by_calls, machine}
use Rattle.hp_counterexamples.proofs.Breaking.{breaks, disagrees, disagreed}
use Rattle.hp_counterexamples.proofs.Locking.{try_PunchesEarly}
use Rattle.hp_counterexamples.proofs.entries_of_all_tasks_are_cleared.Goals as goal

pub returns : goal.returns
unfolding machine PunchesEarly
returns c =
    breaks (with_calls PunchesEarly) (by_calls PunchesEarly try_PunchesEarly)
    (small 2 1) 1 punch_early_run Agrees disagrees disagreed refl
