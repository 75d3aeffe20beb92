use Rattle.hp_shared.specs.Seats.{AllSeated}
use Rattle.hp_shared.proofs.shared.missing_seat.Given as goal

abbrev pub invariant-loop-number : goal.invariant-loop-number
invariant-loop-number g l = AllSeated l.number l.seats
