use Rattle.std.proofs.Common.{◌≡◌, ◌≤◌, ◌+◌, ◌++◌, length, vec_len, vec_capacity}
use Rattle.std.specs.Vec.Iter.{into_iter_items}
use Rattle.hp_client.specs.Crew.{seats_at}
use Rattle.hp_client.proofs.crew.seats_at.Given as goal

abbrev pub invariant-loop-member : goal.invariant-loop-member
invariant-loop-member g l = record {
  can_next : (goal.iterator-loop-member g).can_next l.member-iterator;
  is_finite : (goal.iterator-loop-member g).is_finite l.member-iterator;
  done : l.seats.items ++ seats_at (into_iter_items l.member-iterator) ≡ seats_at l.fn.members.items;
  room : vec_len l.seats + length (into_iter_items l.member-iterator) ≤ vec_capacity l.seats;
}
