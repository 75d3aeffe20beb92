-- The slots stay right, and the runs so far miss.
use Rattle.std.proofs.Common.{◌≡◌, length}
use Rattle.hp_workers.specs.Claims.{AreOwn}
use Rattle.hp_hunt.specs.Claims.{FirstsMiss, TellsOf}
use Rattle.hp_hunt.proofs.claims.search_batch.Given as goal

abbrev pub invariant-loop-place : goal.invariant-loop-place
invariant-loop-place g l = record {
  long : length l.slots.items ≡ l.batch.count;
  own : AreOwn (TellsOf l.batch) l.slots.items;
  misses : FirstsMiss l.batch l.place;
}
