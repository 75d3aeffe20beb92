use Rattle.std.proofs.Common.{refl}
use Rattle.hp_machine.specs.Headline.{Agrees}
use Rattle.hp_counterexamples.specs.Runs.{small, with_calls}
use Rattle.hp_counterexamples.specs.Locking.{PunchBreaksSlot, punch_slot_run}
use Rattle.hp_counterexamples.proofs.Running.{by_calls, machine}
use Rattle.hp_counterexamples.proofs.Breaking.{breaks, disagrees, disagreed}
use Rattle.hp_counterexamples.proofs.Locking.{try_PunchBreaksSlot}
use Rattle.hp_counterexamples.proofs.a_punch_waits_for_its_slot.Goals as goal

pub returns : goal.returns
unfolding machine PunchBreaksSlot
returns c =
    breaks (with_calls PunchBreaksSlot) (by_calls PunchBreaksSlot try_PunchBreaksSlot)
    (small 2 1) 1 punch_slot_run Agrees disagrees disagreed refl
