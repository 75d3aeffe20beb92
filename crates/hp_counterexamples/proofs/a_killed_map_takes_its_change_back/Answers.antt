use Rattle.std.proofs.Common.{refl}
use Rattle.hp_counterexamples.specs.Runs.{small, with_calls}
use Rattle.hp_counterexamples.specs.Changing.{DropsChange, drop_run}
use Rattle.hp_counterexamples.proofs.Running.{by_calls, machine}
use Rattle.hp_counterexamples.proofs.Breaking.{strands_so}
use Rattle.hp_counterexamples.proofs.Changing.{try_DropsChange}
use Rattle.hp_counterexamples.proofs.a_killed_map_takes_its_change_back.Goals as goal

pub returns : goal.returns
unfolding machine DropsChange
returns c =
    strands_so (with_calls DropsChange) (by_calls DropsChange try_DropsChange)
    (small 1 1) 1 drop_run 0 1 refl
