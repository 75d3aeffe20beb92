use Rattle.std.proofs.Common.{refl}
use Rattle.hp_counterexamples.specs.Runs.{bounded, with_calls}
use Rattle.hp_counterexamples.specs.Counting.{MapKeepsUsed, map_settles_run}
use Rattle.hp_counterexamples.proofs.Running.{by_calls, machine}
use Rattle.hp_counterexamples.proofs.Breaking.{misuses_so}
use Rattle.hp_counterexamples.proofs.Counting.{try_MapKeepsUsed}
use Rattle.hp_counterexamples.proofs.a_map_settles_the_used_count.Goals as goal

pub returns : goal.returns
unfolding machine MapKeepsUsed
returns c =
    misuses_so (with_calls MapKeepsUsed) (by_calls MapKeepsUsed try_MapKeepsUsed)
    (bounded 2 1 2) 2 map_settles_run 2 1 refl
