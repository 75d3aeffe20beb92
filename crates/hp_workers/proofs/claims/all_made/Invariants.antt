-- What was made so far is that of the places so far, and the slots stay right.
use Rattle.std.proofs.Common.{◌≡◌, length}
use Rattle.std.specs.List.{AllZip, range_with_len}
use Rattle.hp_workers.specs.Claims.{AreOwn}
use Rattle.hp_workers.proofs.claims.all_made.Given as goal

abbrev pub invariant-loop-place : goal.invariant-loop-place
invariant-loop-place g l = record {
  long : length l.slots.items ≡ l.places;
  own : AreOwn (g.W.Work.is_right l.work) l.slots.items;
  all : AllZip (g.W.Work.is_right l.work) (range_with_len 0 l.place) l.all.items;
}
