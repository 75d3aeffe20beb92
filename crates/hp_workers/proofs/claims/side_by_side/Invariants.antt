-- The slots stay right with what the workers that are left claimed, down to none.
use Rattle.std.proofs.Common.{◌≡◌, All, length}
use Rattle.hp_workers.specs.Claims.{AreClaimed, AreOwn}
use Rattle.hp_workers.proofs.claims.side_by_side.Given as goal

abbrev pub invariant-loop-claimed : goal.invariant-loop-claimed
invariant-loop-claimed g l = record {
  long : length l.slots.items ≡ l.places;
  own : AreOwn (g.W.Work.is_right l.work) l.slots.items;
  found : All (λ claimed. AreClaimed (g.W.Work.is_right l.work) l.places claimed.items) l.found.items;
}

abbrev pub decreases-loop-claimed : goal.decreases-loop-claimed
decreases-loop-claimed g l = goal.left-loop-claimed g l
