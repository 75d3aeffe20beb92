use Rattle.std.proofs.Common.{◌≡◌, map, take, drop}
use Rattle.hp_shared.specs.Cutting.{emptied}
use Rattle.hp_shared.proofs.cutting.empty_seats.Given as goal

abbrev pub invariant-loop-seat : goal.invariant-loop-seat
invariant-loop-seat g l = record {
  done : take l.seat-index l.seats ≡ map emptied (take l.seat-index l.fn.seats);
  others : drop l.seat-index l.seats ≡ drop l.seat-index l.fn.seats;
  total : l.book.total ≡ l.fn.book.total;
}
