-- Whom tasks wait for.
use Rattle.std.specs.Prelude.{◌≡◌, ℕ, ◌-◌, ◌≤◌, List, Option, length, slice_index_or}
use Rattle.hp_core.specs.Readers.{config_of}
use Rattle.hp_core.specs.State.{CoreState}
use Rattle.hp_core.specs.Waiting.{WaitsFor}

-- for each task of these holders, from task 1 on, the one by whom its next step would be blocked, if it would be by anybody
unfoldable pub AreHoldersOf : CoreState → List (Option ℕ) → Type 0
AreHoldersOf core holders = (t : ℕ) (d : Option ℕ) → 1 ≤ t → t ≤ length holders → WaitsFor core t (slice_index_or holders (t - 1) d)

-- of all tasks
abbrev pub AreHolders : CoreState → List (Option ℕ) → Type 0
AreHolders core holders = (length holders ≡ (config_of core).tasks) × AreHoldersOf core holders
