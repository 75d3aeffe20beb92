-- What the parts keep, however they keep it: to say that a step changed nothing.
use Rattle.std.specs.Prelude.{◌≡◌, ℕ, List, Option, length, vec_capacity}
use Rattle.hp_frames.specs.Bank.{BankState}
use Rattle.hp_table.specs.Table.{Table}
use Rattle.hp_parts.specs.declared.parts.FileState.{FileState}
use Rattle.hp_parts.specs.declared.parts.Parts.{Parts}

pub record PartsState : Type 0 where
  pub bank : BankState
  pub files : List FileState
  pub slots : List (Option ℕ)
  pub locks : List (Option ℕ)
  pub spaces : List Table
  -- for how many files, and for how many spaces, these two lists have taken memory
  pub listed_files : ℕ
  pub listed_tasks : ℕ

abbrev pub state_of : Parts → PartsState
state_of p = record {
  bank = p.bank;
  files = p.files.items;
  slots = p.slots;
  locks = p.locks;
  spaces = p.spaces.items;
  listed_files = vec_capacity p.files;
  listed_tasks = vec_capacity p.spaces;
}

-- there is a lock for each file
abbrev pub IsSized : PartsState → Type 0
IsSized p = length p.locks ≡ length p.files

-- as many of each thing as before; how many frames there are, each row tells
abbrev pub SizesStay : PartsState → PartsState → Type 0
SizesStay old new = record {
  files : length new.files ≡ length old.files;
  slots : length new.slots ≡ length old.slots;
  locks : length new.locks ≡ length old.locks;
  spaces : length new.spaces ≡ length old.spaces;
}
