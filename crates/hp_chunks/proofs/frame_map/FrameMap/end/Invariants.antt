use Rattle.std.proofs.Common.{◌≡◌, ℕ, ◌≤◌, None, slice_index_or}
use Rattle.hp_chunks.proofs.frame_map.FrameMap.end.Given as goal

abbrev pub invariant-loop-at : goal.invariant-loop-at
invariant-loop-at g l = (k : ℕ) → l.at ≤ k → slice_index_or l.self-inside.chunks.items k None ≡ None
