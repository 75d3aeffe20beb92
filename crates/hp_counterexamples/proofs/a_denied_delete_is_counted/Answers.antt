use Rattle.std.proofs.Common.{refl}
use Rattle.hp_counterexamples.specs.Runs.{small, with_calls}
use Rattle.hp_counterexamples.specs.Counting.{ForgetsDenial, denial_run}
use Rattle.hp_counterexamples.proofs.Running.{by_calls, machine}
use Rattle.hp_counterexamples.proofs.Breaking.{miscounts_so}
use Rattle.hp_counterexamples.proofs.Counting.{try_ForgetsDenial}
use Rattle.hp_counterexamples.proofs.a_denied_delete_is_counted.Goals as goal

pub returns : goal.returns
unfolding machine ForgetsDenial
returns c =
    miscounts_so (with_calls ForgetsDenial) (by_calls ForgetsDenial try_ForgetsDenial)
    (small 1 5) 4 denial_run 3 4 refl
