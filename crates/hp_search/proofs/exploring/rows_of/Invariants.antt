-- so many rows are made
use Rattle.std.proofs.Common.{◌≡◌, ◌<◌, ℕ, length}
use Rattle.std.specs.Prelude.{slice_index_or}
use Rattle.hp_every.specs.Endings.{EndState}
use Rattle.hp_search.specs.Endings.{IsRowAt}
use Rattle.hp_search.specs.Searching.{question_of}
use Rattle.hp_search.specs.declared.endings.EndingRow.{EndingRow}
use Rattle.hp_search.proofs.exploring.rows_of.Given as goal

abbrev pub invariant-loop-place : goal.invariant-loop-place
invariant-loop-place l = record {
  long : length l.rows.items ≡ l.place;
  each : (k : ℕ) (s : EndState) (d : EndingRow) → k < l.place → IsRowAt (question_of l.query)
      (slice_index_or l.counts.states.items k s).path.turns (slice_index_or l.counts.ways.items k 0) (slice_index_or l.rows.items k d);
}
