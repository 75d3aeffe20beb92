use Rattle.std.proofs.Common.{refl}
use Rattle.hp_counterexamples.specs.Runs.{bounded, with_calls}
use Rattle.hp_counterexamples.specs.Counting.{UnusesDenied, denial_run}
use Rattle.hp_counterexamples.proofs.Running.{by_calls, machine}
use Rattle.hp_counterexamples.proofs.Breaking.{misuses_so}
use Rattle.hp_counterexamples.proofs.Counting.{try_UnusesDenied}
use Rattle.hp_counterexamples.proofs.a_denied_delete_stays_used.Goals as goal

pub returns : goal.returns
unfolding machine UnusesDenied
returns c =
    misuses_so (with_calls UnusesDenied) (by_calls UnusesDenied try_UnusesDenied)
    (bounded 1 5 4) 4 denial_run 3 4 refl
