use Rattle.std.proofs.Common.{refl}
use Rattle.hp_counterexamples.specs.Runs.{with_calls}
use Rattle.hp_counterexamples.specs.Changing.{TakesAnySpare, split_run, two_slots}
use Rattle.hp_counterexamples.proofs.Running.{by_calls, machine}
use Rattle.hp_counterexamples.proofs.Breaking.{lacks_so}
use Rattle.hp_counterexamples.proofs.Changing.{try_TakesAnySpare}
use Rattle.hp_counterexamples.proofs.promised_spares_are_left_alone.Goals as goal

pub returns : goal.returns
unfolding machine TakesAnySpare
returns c =
    lacks_so (with_calls TakesAnySpare) (by_calls TakesAnySpare try_TakesAnySpare)
    (two_slots 2 5) 4 split_run 2 refl
