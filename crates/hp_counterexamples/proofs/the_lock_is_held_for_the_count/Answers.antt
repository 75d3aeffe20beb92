use Rattle.std.proofs.Common.{refl}
use Rattle.hp_counterexamples.specs.Runs.{small, with_calls}
use Rattle.hp_counterexamples.specs.Locking.{UnlocksEarly, unlock_count_run}
use Rattle.hp_counterexamples.proofs.Running.{by_calls, machine}
use Rattle.hp_counterexamples.proofs.Breaking.{miscounts_so}
use Rattle.hp_counterexamples.proofs.Locking.{try_UnlocksEarly}
use Rattle.hp_counterexamples.proofs.the_lock_is_held_for_the_count.Goals as goal

pub returns : goal.returns
unfolding machine UnlocksEarly
returns c =
    miscounts_so (with_calls UnlocksEarly) (by_calls UnlocksEarly try_UnlocksEarly)
    (small 2 1) 1 unlock_count_run 0 1 refl
