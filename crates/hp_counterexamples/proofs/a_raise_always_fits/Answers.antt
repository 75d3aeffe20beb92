use Rattle.std.proofs.Common.{refl}
use Rattle.hp_counterexamples.specs.Runs.{small, with_calls}
use Rattle.hp_counterexamples.specs.Counting.{IgnoresRefusal, denial_run}
use Rattle.hp_counterexamples.proofs.Running.{by_calls, machine}
use Rattle.hp_counterexamples.proofs.Breaking.{miscounts_so}
use Rattle.hp_counterexamples.proofs.Counting.{try_IgnoresRefusal}
use Rattle.hp_counterexamples.proofs.a_raise_always_fits.Goals as goal

pub returns : goal.returns
unfolding machine IgnoresRefusal
returns c =
    miscounts_so (with_calls IgnoresRefusal) (by_calls IgnoresRefusal try_IgnoresRefusal)
    (small 1 5) 4 denial_run 3 4 refl
