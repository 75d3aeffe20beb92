use Rattle.std.proofs.Common.{◌≡◌, ℕ, ◌+◌, ◌*◌, ◌<◌, ◌≤◌, None}
use Rattle.hp_chunks.specs.Chunks.{frame_of}
use Rattle.hp_chunks.proofs.frame_map.FrameMap.first_within.Given as goal

abbrev pub invariant-loop-at : goal.invariant-loop-at
invariant-loop-at g l = record {
  in_chunk : l.place < 64;
  before : l.from ≤ l.at * 64 + l.place;
  none : (k : ℕ) → l.from ≤ k → k < l.at * 64 + l.place → frame_of l.self-inside.chunks.items k ≡ None;
}
