use Rattle.std.proofs.Common.{refl}
use Rattle.hp_counterexamples.specs.Runs.{bounded, with_calls}
use Rattle.hp_counterexamples.specs.Counting.{KeepsEvictedUsed, evicted_used_run}
use Rattle.hp_counterexamples.proofs.Running.{by_calls, machine}
use Rattle.hp_counterexamples.proofs.Breaking.{misuses_so}
use Rattle.hp_counterexamples.proofs.Counting.{try_KeepsEvictedUsed}
use Rattle.hp_counterexamples.proofs.evicted_pages_are_no_longer_used.Goals as goal

pub returns : goal.returns
unfolding machine KeepsEvictedUsed
returns c =
    misuses_so (with_calls KeepsEvictedUsed) (by_calls KeepsEvictedUsed try_KeepsEvictedUsed)
    (bounded 1 1 1) 1 evicted_used_run 1 0 refl
