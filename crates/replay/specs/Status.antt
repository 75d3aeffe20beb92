-- What the program has done where it ends, and its status.
use Rattle.std.specs.Prelude.{◌≡◌, ℕ, List, Option, Result, Ok, Err}
use Rattle.hp_program.specs.Endings.{DidReplay}
use Rattle.hp_text.specs.declared.fault.ReplayFault.{ReplayFault}

-- A reader had the bytes `from` left, and now has `to`; an output held `before`, and now holds `after`.

-- 0 where the replay came to its end, 1 after a fault
abbrev pub status_at : Result (Unit {0}) ReplayFault → ℕ
status_at (Ok x) = 0
status_at (Err fault) = 1

-- a replay, as `hugepool replay` does it, and its status
pub record EndsWith (status : ℕ) (from to : Option (List ℕ)) (old new : ℕ) (before : Option (List ℕ))
    (after : Option (Option (List ℕ))) : Type 0 where
  pub answer : Result (Unit {0}) ReplayFault
  pub is : status ≡ status_at answer
  pub did : DidReplay answer from to old new before after
