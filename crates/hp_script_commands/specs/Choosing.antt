-- What comes of `hugepool schedule --every`.
use Rattle.std.specs.Prelude.{◌≡◌, ◌≤◌, ◌⊎◌, ℕ, Bool, List, Option, None, Some, Result, length, slice_get}
use Rattle.std.specs.Io.KnownBytes.{Appends}
use Rattle.hp_base.specs.Text.{Sizes, sizes}
use Rattle.hp_search.specs.Endings.{AreAllRows, AreTooHeavy, AreTooMany}
use Rattle.hp_search.specs.Searching.{AreLong}
use Rattle.hp_search.specs.declared.endings.EndingRow.{EndingRow}
use Rattle.hp_program.specs.Answers.{AnsweredHunt, OfScript}
use Rattle.hp_text.specs.ScriptLines.{HasLinesFault, ReadsScript}
use Rattle.hp_text.specs.Traces.{trace_text}
use Rattle.hp_text.specs.Writing.{Wrote}
use Rattle.hp_text.specs.declared.fault.ReplayFault.{ReplayFault}
use Rattle.hp_text.specs.declared.script.Script.{Script}
use Rattle.hp_command.specs.declared.request.EndingChoice.{EndingChoice}
use Rattle.hp_script_commands.specs.Tabling.{schedules_of}

-- A reader had the bytes `from` left, and now has `to`; an output held `before`, and now holds `after`.

-- the trace of the schedule of the row at that place was written, all of it or in part
pub record PutsRow (How : Option (List ℕ) → Option (List ℕ) → List ℕ → Type 0) (s : Sizes) (rows : List EndingRow) (place : ℕ)
    (before after : Option (List ℕ)) : Type 0 where
  pub row : EndingRow
  pub is : slice_get rows place ≡ Some row
  pub wrote : How before after (trace_text s row.events.items)

-- it was written
abbrev pub WritesRow : Sizes → List EndingRow → (place : ℕ) → (before after : Option (List ℕ)) → Type 0
WritesRow = PutsRow Appends

-- a front of it was
abbrev pub WritesRowPartly : Sizes → List EndingRow → (place : ℕ) → (before after : Option (List ℕ)) → Type 0
WritesRowPartly = PutsRow Wrote

-- a script was read, and the schedule of that row of all endings of its schedules written, all of it or in part
pub record ChoosesSo (How : Option (List ℕ) → Option (List ℕ) → List ℕ → Type 0) (c : EndingChoice) (from to before after : Option (List ℕ))
    : Type 0 where
  pub script : Script
  pub rows : List EndingRow
  pub reads : ReadsScript from to (sizes script.config) script.calls.items script.waits.items
  pub are : AreAllRows (schedules_of c.bounds script) rows
  pub puts : PutsRow How (sizes script.config) rows c.run before after

-- it was written
abbrev pub Chooses : EndingChoice → (from to before after : Option (List ℕ)) → Type 0
Chooses = ChoosesSo Appends

-- a front of it was
abbrev pub ChoosesPartly : EndingChoice → (from to before after : Option (List ℕ)) → Type 0
ChoosesPartly = ChoosesSo Wrote

-- there is no such row; or the limits ran out: schedules go on up to a million turns, or have more places with answers,
-- or take more memory, than may be
unfoldable pub HasNoRow : EndingChoice → (cut : Option ℕ) → Script → Type 0
HasNoRow c None script = (rows : List EndingRow) × AreAllRows (schedules_of c.bounds script) rows × (length rows ≤ c.run)
HasNoRow c (Some turns) script =
    ((turns ≡ 1000000) × AreLong (schedules_of c.bounds script) turns) ⊎ AreTooMany (schedules_of c.bounds script) c.bounds.states turns
    ⊎ AreTooHeavy (schedules_of c.bounds script) c.bounds.memory turns

-- a script was read of which this is so
pub record MissesEnding (c : EndingChoice) (cut : Option ℕ) (from to : Option (List ℕ)) : Type 0 where
  pub script : Script
  pub reads : ReadsScript from to (sizes script.config) script.calls.items script.waits.items
  pub none : HasNoRow c cut script

-- the trace of a shortest schedule of the script that ends as that row says
pub record IsRowText (c : EndingChoice) (script : Script) (text : List ℕ) : Type 0 where
  pub rows : List EndingRow
  pub are : AreAllRows (schedules_of c.bounds script) rows
  pub row : EndingRow
  pub is : slice_get rows c.run ≡ Some row
  pub spelt : text ≡ trace_text (sizes script.config) row.events.items

-- what is answered: whether there is such a row
abbrev pub AnsweredChoice : EndingChoice → (cut : Option ℕ) → Result Bool ReplayFault → Option (List ℕ) → Option (List ℕ) → (old new : ℕ)
    → Option (List ℕ) → Option (Option (List ℕ)) → Type 0
AnsweredChoice c cut answer from to old new before after =
    AnsweredHunt (Chooses c) (MissesEnding c cut) (OfScript (IsRowText c)) HasLinesFault answer from to old new before after
