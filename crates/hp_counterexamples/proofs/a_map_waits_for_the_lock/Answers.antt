use Rattle.std.proofs.Common.{refl}
use Rattle.hp_counterexamples.specs.Runs.{small, with_calls}
use Rattle.hp_counterexamples.specs.Locking.{BreaksLock, lock_run}
use Rattle.hp_counterexamples.proofs.Running.{by_calls, machine}
use Rattle.hp_counterexamples.proofs.Breaking.{miscounts_so}
use Rattle.hp_counterexamples.proofs.Locking.{try_BreaksLock}
use Rattle.hp_counterexamples.proofs.a_map_waits_for_the_lock.Goals as goal

pub returns : goal.returns
unfolding machine BreaksLock
returns c =
    miscounts_so (with_calls BreaksLock) (by_calls BreaksLock try_BreaksLock)
    (small 2 1) 1 lock_run 0 1 refl
