use Rattle.std.proofs.Common.{refl}
use Rattle.hp_counterexamples.specs.Runs.{small, with_calls}
use Rattle.hp_counterexamples.specs.Counting.{GivesBackEvicted, evicted_run}
use Rattle.hp_counterexamples.proofs.Running.{by_calls, machine}
use Rattle.hp_counterexamples.proofs.Breaking.{miscounts_so}
use Rattle.hp_counterexamples.proofs.Counting.{try_GivesBackEvicted}
use Rattle.hp_counterexamples.proofs.evicted_pages_are_not_given_back.Goals as goal

pub returns : goal.returns
unfolding machine GivesBackEvicted
returns c =
    miscounts_so (with_calls GivesBackEvicted) (by_calls GivesBackEvicted try_GivesBackEvicted)
    (small 1 2) 2 evicted_run 0 1 refl
