-- What comes of `hugepool format`.
use Rattle.std.specs.Prelude.{◌≡◌, ◌⊎◌, ℕ, List, Option, Result, Ok, Err, MatchResult}
use Rattle.std.specs.Io.KnownBytes.{Appends, Keeps}
use Rattle.hp_format.specs.declared.fault.LooseFault.{LooseFault}
use Rattle.hp_format.specs.declared.fault.LooseFault.TheVariants.{Stream, Line}
use Rattle.hp_program.specs.Answers.{IfThere}
use Rattle.hp_program.specs.Endings.{ReaderAt}
use Rattle.hp_text.specs.Writing.{IsWriteFault, Wrote}
use Rattle.hp_text.specs.declared.fault.ReplayFault.TheVariants.{Read}
use Rattle.hp_trace_commands.specs.Strict.{IsUnread, ReadsStrict}

-- A reader had the bytes `from` left, and now has `to`; an output held `before`, and now holds `after`.

-- a text in the loose form was read, and the strict text that it asks for written
pub record Formats (from to before after : Option (List ℕ)) : Type 0 where
  pub strict : List ℕ
  pub reads : ReadsStrict from to strict
  pub wrote : Appends before after strict

-- it was read, and a front of that text written
pub record FormatsPartly (from to before after : Option (List ℕ)) : Type 0 where
  pub strict : List ℕ
  pub reads : ReadsStrict from to strict
  pub wrote : Wrote before after strict

-- Nothing is written before the whole text is read: so where it is at fault, or couldn't be read, nothing was written
abbrev pub NotFormatted : LooseFault → (from to before after : Option (List ℕ)) → Type 0
NotFormatted (Stream fault) from to before after =
    (IsUnread from to (Stream fault) × Keeps before after) ⊎ (IsWriteFault fault × FormatsPartly from to before after)
NotFormatted (Line number why) from to before after = IsUnread from to (Line number why) × Keeps before after

-- a fault of reading is answered where a read failed, and nowhere else
abbrev pub ReaderAtLoose : LooseFault → (old new : ℕ) → Type 0
ReaderAtLoose (Stream fault) old new = ReaderAt fault old new
ReaderAtLoose (Line number why) old new = new ≡ old

abbrev pub TellsFormat : Result (Unit {0}) LooseFault → (old new : ℕ) → Type 0
TellsFormat result old new = MatchResult result (λ _. new ≡ old) (λ fault. ReaderAtLoose fault old new)

-- What is answered, and what was read and written then. A fault of a line is that of the first wrong one of what was read, and any other
-- is of reading, of writing, or of memory. A flush that fails is a fault of writing
abbrev pub AnsweredFormat : Result (Unit {0}) LooseFault → (from to : Option (List ℕ)) → (old new : ℕ) → (before : Option (List ℕ))
    → (after : Option (Option (List ℕ))) → Type 0
AnsweredFormat (Ok x) from to old new before after = (new ≡ old) × IfThere after (λ held. Formats from to before held)
AnsweredFormat (Err (Line number why)) from to old new before after =
    (new ≡ old) × IsUnread from to (Line number why) × IfThere after (λ held. Keeps before held)
AnsweredFormat (Err (Stream fault)) from to old new before after =
    ReaderAt fault old new × ((fault ≡ Read) ⊎ IsWriteFault fault)
    × IfThere after (λ held. Keeps before held ⊎ FormatsPartly from to before held)

-- the status with which the program ends
abbrev pub status_of_format : Result (Unit {0}) LooseFault → ℕ
status_of_format (Ok x) = 0
status_of_format (Err fault) = 1
