-- none of the first endings is the same
use Rattle.std.proofs.Common.{ℕ, ◌<◌}
use Rattle.std.specs.Prelude.{◌≢◌, slice_index_or}
use Rattle.hp_summary.specs.declared.tally.Ending.{Ending}
use Rattle.hp_summary.proofs.tally.find_ending.Given as goal

abbrev pub invariant-loop-place : goal.invariant-loop-place
invariant-loop-place l =
    (k : ℕ) (d : Ending) → k < l.place → l.ended ≢ (slice_index_or l.endings k d).ended.items
