use Rattle.std.proofs.Common.{arith}
use Rattle.hp_shared.proofs.Stances.{one_called}
use Rattle.hp_shared.proofs.waiting_room.call_one.Goals as goal

pub returns-clause-watched : goal.returns-clause-watched
returns-clause-watched g c none place asleep =
    absurd (one_called c.args.stances.now c.in_ok-place.place (omega (arith, c.in_ok-place.ensures.held_up, c.told-stances)) none)
