-- What comes of `hugepool explore --every`.
use Rattle.std.specs.Prelude.{◌≡◌, ◌==◌, ◌⊎◌, ◌++◌, ◌∷◌, [], ℕ, Bool, List, Option, Some, Result, codes, if◌then◌else◌, length}
use Rattle.std.specs.Fmt.{decimal}
use Rattle.std.specs.Io.KnownBytes.{Appends}
use Rattle.std.specs.List.{flat_map}
use Rattle.hp_base.specs.Text.{sizes}
use Rattle.hp_layers.specs.Weighed.{most}
use Rattle.hp_layers.specs.declared.limits.Limits.{Limits}
use Rattle.hp_every.specs.Search.{Question}
use Rattle.hp_search.specs.Endings.{AreAllRows, AreTooHeavy, AreTooMany}
use Rattle.hp_search.specs.Searching.{AreLong}
use Rattle.hp_search.specs.declared.endings.EndingRow.{EndingRow}
use Rattle.hp_summary.specs.SummaryText.{call_text}
use Rattle.hp_program.specs.Answers.{AnsweredHunt, OfScript}
use Rattle.hp_text.specs.ScriptLines.{HasLinesFault, ReadsScript}
use Rattle.hp_text.specs.Writing.{Wrote}
use Rattle.hp_text.specs.declared.fault.ReplayFault.{ReplayFault}
use Rattle.hp_text.specs.declared.script.Script.{Script}
use Rattle.hp_command.specs.declared.request.EveryBounds.{EveryBounds}

-- ---- the text

-- how many schedules; the largest number says that many or more
abbrev pub schedules_text : ℕ → List ℕ
schedules_text n = if n == most then codes ">=" ++ decimal n else decimal n

-- `ending N turns T free F resv R used U | T CALL ANSWER ..`: so many schedules end so, and a shortest has so many turns
abbrev pub row_line : EndingRow → List ℕ
row_line row =
    codes "ending " ++ (schedules_text row.schedules ++ (codes " turns " ++ (decimal (length row.events.items)
    ++ (codes " free " ++ (decimal row.free ++ (codes " resv " ++ (decimal row.resv ++ (codes " used " ++ (decimal row.used
    ++ (flat_map call_text row.ended.items ++ 10 ∷ []))))))))))

-- `endings N`, and a line for each
abbrev pub table_text : List EndingRow → List ℕ
table_text rows = codes "endings " ++ (decimal (length rows) ++ (10 ∷ flat_map row_line rows))

-- ---- what is done

-- A reader had the bytes `from` left, and now has `to`; an output held `before`, and now holds `after`.

-- the schedules of the script that are asked for
abbrev pub schedules_of : EveryBounds → Script → Question
schedules_of b script = record { script = script; denials = b.denials; kills = b.kills; conditions = [] }

-- a script was read, and the table of all endings of its schedules written
pub record Tabulates (b : EveryBounds) (from to before after : Option (List ℕ)) : Type 0 where
  pub script : Script
  pub rows : List EndingRow
  pub reads : ReadsScript from to (sizes script.config) script.calls.items script.waits.items
  pub are : AreAllRows (schedules_of b script) rows
  pub wrote : Appends before after (table_text rows)

-- a script was read, and a front of that table written
pub record TabulatesPartly (b : EveryBounds) (from to before after : Option (List ℕ)) : Type 0 where
  pub script : Script
  pub rows : List EndingRow
  pub reads : ReadsScript from to (sizes script.config) script.calls.items script.waits.items
  pub are : AreAllRows (schedules_of b script) rows
  pub wrote : Wrote before after (table_text rows)

-- a schedule has fewer than a million turns
abbrev pub limits_of : EveryBounds → Limits
limits_of b = record { turns = 1000000; states = b.states; bytes = b.memory }

-- a script was read, and the limits ran out: schedules go on up to a million turns, or have more places with answers,
-- or take more memory, than may be
pub record IsCutShort (b : EveryBounds) (cut : Option ℕ) (from to : Option (List ℕ)) : Type 0 where
  pub script : Script
  pub turns : ℕ
  pub reads : ReadsScript from to (sizes script.config) script.calls.items script.waits.items
  pub at : cut ≡ Some turns
  pub why : ((turns ≡ 1000000) × AreLong (schedules_of b script) turns) ⊎ AreTooMany (schedules_of b script) b.states turns
      ⊎ AreTooHeavy (schedules_of b script) b.memory turns

-- the table of all endings of the script's schedules
pub record IsTableText (b : EveryBounds) (script : Script) (text : List ℕ) : Type 0 where
  pub rows : List EndingRow
  pub are : AreAllRows (schedules_of b script) rows
  pub spelt : text ≡ table_text rows

-- what is answered: whether the table was written
abbrev pub AnsweredTable : EveryBounds → (cut : Option ℕ) → Result Bool ReplayFault → Option (List ℕ) → Option (List ℕ) → (old new : ℕ)
    → Option (List ℕ) → Option (Option (List ℕ)) → Type 0
AnsweredTable b cut answer from to old new before after =
    AnsweredHunt (Tabulates b) (IsCutShort b cut) (OfScript (IsTableText b)) HasLinesFault answer from to old new before after
