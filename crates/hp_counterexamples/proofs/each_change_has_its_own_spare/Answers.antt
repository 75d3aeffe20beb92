use Rattle.std.proofs.Common.{refl}
use Rattle.hp_counterexamples.specs.Runs.{small, with_calls}
use Rattle.hp_counterexamples.specs.Changing.{SharesSpare, shared_spare_run}
use Rattle.hp_counterexamples.proofs.Running.{by_calls, machine}
use Rattle.hp_counterexamples.proofs.Breaking.{lacks_so}
use Rattle.hp_counterexamples.proofs.Changing.{try_SharesSpare}
use Rattle.hp_counterexamples.proofs.each_change_has_its_own_spare.Goals as goal

pub returns : goal.returns
unfolding machine SharesSpare
returns c =
    lacks_so (with_calls SharesSpare) (by_calls SharesSpare try_SharesSpare)
    (small 2 3) 2 shared_spare_run 1 refl
