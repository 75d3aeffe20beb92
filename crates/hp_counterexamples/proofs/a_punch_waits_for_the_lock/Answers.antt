use Rattle.std.proofs.Common.{refl}
use Rattle.hp_counterexamples.specs.Runs.{small, with_calls}
use Rattle.hp_counterexamples.specs.Locking.{PunchBreaksLock, punch_lock_run}
use Rattle.hp_counterexamples.proofs.Running.{by_calls, machine}
use Rattle.hp_counterexamples.proofs.Breaking.{miscounts_so}
use Rattle.hp_counterexamples.proofs.Locking.{try_PunchBreaksLock}
use Rattle.hp_counterexamples.proofs.a_punch_waits_for_the_lock.Goals as goal

pub returns : goal.returns
unfolding machine PunchBreaksLock
returns c =
    miscounts_so (with_calls PunchBreaksLock) (by_calls PunchBreaksLock try_PunchBreaksLock)
    (small 2 1) 1 punch_lock_run 0 1 refl
