use Rattle.hp_shared.specs.Cutting.{NoneInFlight}
use Rattle.hp_shared.proofs.cutting.in_flight.Given as goal

abbrev pub invariant-loop-number : goal.invariant-loop-number
invariant-loop-number g l = NoneInFlight l.core l.seats l.number
