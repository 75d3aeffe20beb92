use Rattle.std.proofs.Common.{arith}
use Rattle.hp_shared.proofs.Stances.{past_not_asleep}
use Rattle.hp_shared.proofs.waiting_room.sleeps.Goals as goal

pub returns-in_default : goal.returns-in_default
returns-in_default c place own =
    let past = c.in_default.ensures place own in
    past_not_asleep c.args.stances.now place (omega (arith, past, c.told-stances))
