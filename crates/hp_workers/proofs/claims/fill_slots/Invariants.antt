-- The slots stay right with what is left, down to nothing.
use Rattle.std.proofs.Common.{◌≡◌, length}
use Rattle.hp_workers.specs.Claims.{AreClaimed, AreOwn}
use Rattle.hp_workers.proofs.claims.fill_slots.Given as goal

abbrev pub invariant-loop-one : goal.invariant-loop-one
invariant-loop-one g l = record {
  long : length l.slots.items ≡ length l.fn.slots.items;
  own : AreOwn (g.W.Work.is_right l.work) l.slots.items;
  claimed : AreClaimed (g.W.Work.is_right l.work) (length l.fn.slots.items) l.claimed.items;
}

abbrev pub decreases-loop-one : goal.decreases-loop-one
decreases-loop-one g l = goal.left-loop-one g l
