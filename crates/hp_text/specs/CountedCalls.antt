-- The calls of each task, counted line by line, and what waits ask for by these counts.
use Rattle.std.specs.Prelude.{◌≡◌, ◌+◌, ◌-◌, ◌<◌, ◌≤◌, ◌&&◌, ℕ, List, length, nat_le, if◌then◌else◌, slice_index, slice_index_or, slice_set}
use Rattle.hp_base.specs.declared.event.Op.{Op}
use Rattle.hp_text.specs.Scripts.{calls_of}
use Rattle.hp_text.specs.declared.script.Wait.{Wait}
use Rattle.hp_text.specs.declared.needs.Need.{Need}

-- so many calls of each task stand on these lines
abbrev pub AreCounts : List (ℕ × Op) → (counts : List ℕ) → Type 0
AreCounts lines counts = (t : ℕ) → 1 ≤ t → t ≤ length counts → slice_index counts (t - 1) ≡ length (calls_of lines t)

-- with one call of the task more, where it is there
abbrev pub counts_with : (counts : List ℕ) → (task : ℕ) → List ℕ
counts_with counts t =
    if nat_le 1 t && nat_le t (length counts) then slice_set counts (t - 1) (slice_index counts (t - 1) + 1) else counts

-- what a wait asks for, where so many calls stand before it
abbrev pub counted_need : (counts : List ℕ) → Wait → Need
counted_need counts wait = record { place = wait.task - 1; calls = slice_index counts (wait.task - 1) }

-- the waits before this one are of calls before that place, and those from it on aren't
pub record SplitsAt (waits : List Wait) (next call : ℕ) : Type 0 where
  pub within : next ≤ length waits
  pub earlier : (i : ℕ) (d : Wait) → i < next → (slice_index_or waits i d).call < call
  pub later : (i : ℕ) (d : Wait) → next ≤ i → i < length waits → call ≤ (slice_index_or waits i d).call
