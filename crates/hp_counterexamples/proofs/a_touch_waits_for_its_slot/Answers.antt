use Rattle.std.proofs.Common.{refl}
use Rattle.hp_machine.specs.Headline.{Agrees}
use Rattle.hp_counterexamples.specs.Runs.{small, with_calls}
use Rattle.hp_counterexamples.specs.Locking.{TouchBreaksSlot, touch_slot_run}
use Rattle.hp_counterexamples.proofs.Running.{by_calls, machine}
use Rattle.hp_counterexamples.proofs.Breaking.{breaks, disagrees, disagreed}
use Rattle.hp_counterexamples.proofs.Locking.{try_TouchBreaksSlot}
use Rattle.hp_counterexamples.proofs.a_touch_waits_for_its_slot.Goals as goal

pub returns : goal.returns
unfolding machine TouchBreaksSlot
returns c =
    breaks (with_calls TouchBreaksSlot) (by_calls TouchBreaksSlot try_TouchBreaksSlot)
    (small 2 1) 1 touch_slot_run Agrees disagrees disagreed refl
