-- Who holds which place.
use Rattle.std.specs.Prelude.{ℕ, ◌+◌, ◌*◌, ◌%◌, List, Option, None, slice_index_or}
use Rattle.hp_slots.specs.declared.table.Fault.{Fault}
use Rattle.hp_slots.specs.declared.table.Fault.TheVariants.{Busy}

-- who holds the place; nobody holds one that isn't there
abbrev pub holder_of : List (Option ℕ) → ℕ → Option ℕ
holder_of holders place = slice_index_or holders place None

-- the slot of a page in a table of so many (Linux: `hugetlb_fault_mutex_hash`)
abbrev pub slot_number : (slots file index : ℕ) → ℕ
slot_number slots file index = (index + 31 * file) % slots

-- whom a fault names
abbrev pub holder_in : Fault → ℕ
holder_in (Busy holder) = holder
