use Rattle.std.proofs.Common.{refl}
use Rattle.hp_counterexamples.specs.Runs.{small, with_calls}
use Rattle.hp_counterexamples.specs.Counting.{MapKeepsExcess, map_settles_run}
use Rattle.hp_counterexamples.proofs.Running.{by_calls, machine}
use Rattle.hp_counterexamples.proofs.Breaking.{miscounts_so}
use Rattle.hp_counterexamples.proofs.Counting.{try_MapKeepsExcess}
use Rattle.hp_counterexamples.proofs.a_map_settles.Goals as goal

pub returns : goal.returns
unfolding machine MapKeepsExcess
returns c =
    miscounts_so (with_calls MapKeepsExcess) (by_calls MapKeepsExcess try_MapKeepsExcess)
    (small 2 1) 2 map_settles_run 1 0 refl
