use Rattle.std.proofs.Common.{◌≡◌, ◌+◌, length}
use Rattle.hp_shared.specs.Closing.{entries_of}
use Rattle.hp_shared.proofs.closing.join_shares.Given as goal

abbrev pub invariant-loop-seat : goal.invariant-loop-seat
invariant-loop-seat g l = record {
  can_next : (goal.iterator-loop-seat g).can_next l.seat-iterator;
  is_finite : (goal.iterator-loop-seat g).is_finite l.seat-iterator;
  parts : l.whole.parts + length l.seat-iterator.rest.items ≡ length l.fn.seats.items;
  amount : l.whole.amount + entries_of l.seat-iterator.rest.items ≡ entries_of l.fn.seats.items;
}
