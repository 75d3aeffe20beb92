use Rattle.std.proofs.Common.{refl}
use Rattle.hp_counterexamples.specs.Runs.{small, with_calls}
use Rattle.hp_counterexamples.specs.Counting.{TouchKeepsExcess, touch_settles_run}
use Rattle.hp_counterexamples.proofs.Running.{by_calls, machine}
use Rattle.hp_counterexamples.proofs.Breaking.{miscounts_so}
use Rattle.hp_counterexamples.proofs.Counting.{try_TouchKeepsExcess}
use Rattle.hp_counterexamples.proofs.a_touch_settles.Goals as goal

pub returns : goal.returns
unfolding machine TouchKeepsExcess
returns c =
    miscounts_so (with_calls TouchKeepsExcess) (by_calls TouchKeepsExcess try_TouchKeepsExcess)
    (small 2 1) 2 touch_settles_run 1 0 refl
