-- The strict text that a text in the loose form asks for.
use Rattle.std.specs.Prelude.{◌≡◌, ◌⊎◌, ◌++◌, ◌∷◌, [], ℕ, List, Bool, Option, Some, true, false, codes, nat_eq}
use Rattle.std.specs.List.{starts_with}
use Rattle.std.specs.Io.KnownBytes.{Consumes, IsAtEnd}
use Rattle.hp_base.specs.Text.{Sizes}
use Rattle.hp_base.specs.declared.event.Event.{Event}
use Rattle.hp_format.specs.Loose.{IsLoose, IsRun, IsWrongAt}
use Rattle.hp_format.specs.Tidy.{tidy}
use Rattle.hp_format.specs.declared.fault.LooseFault.{LooseFault}
use Rattle.hp_format.specs.declared.fault.LooseFault.TheVariants.{Stream, Line}
use Rattle.hp_text.specs.TextLines.{lines_of}
use Rattle.hp_text.specs.Traces.{trace_text}
use Rattle.hp_text.specs.declared.fault.ReplayFault.TheVariants.{Memory, Read}

-- the words of a line and its end, where it has words
abbrev pub plain_line : List ℕ → List ℕ
plain_line [] = []
plain_line (b ∷ bs) = (b ∷ bs) ++ 10 ∷ []

-- the words of all lines: without comments, blank lines, and more space than one between two words
abbrev pub plain_lines : List (List ℕ) → List ℕ
plain_lines [] = []
plain_lines (line ∷ lines) = plain_line (tidy line) ++ plain_lines lines

-- a script whose calls may wait begins so
abbrev pub is_script : List ℕ → Bool
is_script text = starts_with nat_eq (plain_lines (lines_of text)) (codes "script ")

-- the trace that a text asks for, with what its lines come to on its pool, one after the other
pub record IsTraceOf (text strict : List ℕ) : Type 0 where
  pub sizes : Sizes
  pub events : List Event
  pub loose : IsLoose text sizes events
  pub run : IsRun text sizes events
  pub is : strict ≡ trace_text sizes events

-- of a script its own words, and of any other text that trace
abbrev pub IsStrictOf : (text strict : List ℕ) → Type 0
IsStrictOf text strict =
    (is_script text ≡ true) × (strict ≡ plain_lines (lines_of text)) ⊎ (is_script text ≡ false) × IsTraceOf text strict

-- a fault of a line is that of the first wrong line of the text, which is no script
abbrev pub IsFaultIn : (text : List ℕ) → LooseFault → Type 0
IsFaultIn text (Stream fault) = Unit {0}
IsFaultIn text (Line number why) = (is_script text ≡ false) × IsWrongAt text number why

-- the reader's bytes, to their end, were a text that asks for it
pub record ReadsStrict (from to : Option (List ℕ)) (strict : List ℕ) : Type 0 where
  pub text : List ℕ
  pub reads : Consumes from to text
  pub all : IsAtEnd to
  pub is : IsStrictOf text strict

-- the reader's bytes, to their end, were a text with that fault
pub record ReadsFault (from to : Option (List ℕ)) (fault : LooseFault) : Type 0 where
  pub text : List ℕ
  pub reads : Consumes from to text
  pub all : IsAtEnd to
  pub is : IsFaultIn text fault

-- why they can't be read as a strict text: a read failed, there was no memory, or a line is wrong
abbrev pub IsUnread : (from to : Option (List ℕ)) → LooseFault → Type 0
IsUnread from to (Stream fault) = (fault ≡ Read) ⊎ (fault ≡ Memory)
IsUnread from to (Line number why) = ReadsFault from to (Line number why)
