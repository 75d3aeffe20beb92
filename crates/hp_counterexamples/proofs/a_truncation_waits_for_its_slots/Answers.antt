use Rattle.std.proofs.Common.{refl}
use Rattle.hp_counterexamples.specs.Runs.{small, with_calls}
use Rattle.hp_counterexamples.specs.Locking.{TruncateBreaksSlot, truncate_slot_run}
use Rattle.hp_counterexamples.proofs.Running.{by_calls, machine}
use Rattle.hp_counterexamples.proofs.Breaking.{miscounts_so}
use Rattle.hp_counterexamples.proofs.Locking.{try_TruncateBreaksSlot}
use Rattle.hp_counterexamples.proofs.a_truncation_waits_for_its_slots.Goals as goal

pub returns : goal.returns
unfolding machine TruncateBreaksSlot
returns c =
    miscounts_so (with_calls TruncateBreaksSlot) (by_calls TruncateBreaksSlot try_TruncateBreaksSlot)
    (small 2 1) 1 truncate_slot_run 0 1 refl
