use Rattle.std.proofs.Common.{refl}
use Rattle.hp_counterexamples.specs.Runs.{small, with_calls}
use Rattle.hp_counterexamples.specs.Locking.{TruncateBreaksLock, truncate_lock_run}
use Rattle.hp_counterexamples.proofs.Running.{by_calls, machine}
use Rattle.hp_counterexamples.proofs.Breaking.{miscounts_so}
use Rattle.hp_counterexamples.proofs.Locking.{try_TruncateBreaksLock}
use Rattle.hp_counterexamples.proofs.a_truncation_waits_for_the_lock.Goals as goal

pub returns : goal.returns
unfolding machine TruncateBreaksLock
returns c =
    miscounts_so (with_calls TruncateBreaksLock) (by_calls TruncateBreaksLock try_TruncateBreaksLock)
    (small 2 1) 1 truncate_lock_run 0 1 refl
