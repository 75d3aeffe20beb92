use Rattle.std.proofs.Common.{refl}
use Rattle.hp_counterexamples.specs.Runs.{bounded, with_calls}
use Rattle.hp_counterexamples.specs.Counting.{TouchKeepsUsed, touch_settles_run}
use Rattle.hp_counterexamples.proofs.Running.{by_calls, machine}
use Rattle.hp_counterexamples.proofs.Breaking.{misuses_so}
use Rattle.hp_counterexamples.proofs.Counting.{try_TouchKeepsUsed}
use Rattle.hp_counterexamples.proofs.a_touch_settles_the_used_count.Goals as goal

pub returns : goal.returns
unfolding machine TouchKeepsUsed
returns c =
    misuses_so (with_calls TouchKeepsUsed) (by_calls TouchKeepsUsed try_TouchKeepsUsed)
    (bounded 2 1 2) 2 touch_settles_run 2 1 refl
