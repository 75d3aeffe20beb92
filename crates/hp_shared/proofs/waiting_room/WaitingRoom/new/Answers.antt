use Rattle.hp_shared.proofs.Stances.{all_up}
use Rattle.hp_shared.proofs.waiting_room.WaitingRoom.new.Goals as goal

pub invariant_of-result : goal.invariant_of-result
invariant_of-result g c none place asleep = absurd (all_up place asleep)
