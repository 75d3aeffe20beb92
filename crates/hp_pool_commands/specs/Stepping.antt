-- What comes of `hugepool step`: its lines are for people, and only tested.
use Rattle.std.specs.Prelude.{◌≡◌, ◌⊎◌, ℕ, List, Option, Result, Ok, Err, IsSome}
use Rattle.hp_program.specs.Endings.{ReaderAt}
use Rattle.hp_text.specs.Writing.{IsWriteFault}
use Rattle.hp_text.specs.declared.fault.ReplayFault.{ReplayFault}
use Rattle.hp_text.specs.declared.fault.ReplayFault.TheVariants.{Read}

-- steps end at no line: a read failed, a write, or there was no memory
abbrev pub IsStepFault : ReplayFault → Type 0
IsStepFault fault = (fault ≡ Read) ⊎ IsWriteFault fault

-- a fault of reading is answered where a read failed, and nowhere else; the output is there
abbrev pub AnsweredStep : Result (Unit {0}) ReplayFault → (old new : ℕ) → (after : Option (Option (List ℕ))) → Type 0
AnsweredStep (Ok x) old new after = (new ≡ old) × IsSome after
AnsweredStep (Err fault) old new after = ReaderAt fault old new × IsStepFault fault × IsSome after
