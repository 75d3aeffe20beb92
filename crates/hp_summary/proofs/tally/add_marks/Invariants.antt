-- so many places are counted, and the others as they were
use Rattle.std.proofs.Common.{◌≡◌, ◌+◌, ◌<◌, ◌≤◌, ℕ, length}
use Rattle.std.specs.Prelude.{false, slice_index_or, if◌then◌else◌}
use Rattle.hp_summary.proofs.tally.add_marks.Given as goal

abbrev pub invariant-loop-place : goal.invariant-loop-place
invariant-loop-place l = record {
  long : length l.counts ≡ length l.fn.counts;
  below : (k : ℕ) → k < l.place → slice_index_or l.counts k 0
      ≡ slice_index_or l.fn.counts k 0 + (if slice_index_or l.marks k false then 1 else 0);
  rest : (k d : ℕ) → l.place ≤ k → slice_index_or l.counts k d ≡ slice_index_or l.fn.counts k d;
}
