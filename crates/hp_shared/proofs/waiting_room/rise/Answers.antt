use Rattle.std.proofs.Common.{arith}
use Rattle.hp_shared.proofs.Stances.{past_up}
use Rattle.hp_shared.proofs.waiting_room.rise.Goals as goal

pub returns-in_default-clause-own : goal.returns-in_default-clause-own
returns-in_default-clause-own c place own =
    let past = c.in_default.ensures place own in
    past_up c.args.stances.now place (omega (arith, past, c.told-stances))
