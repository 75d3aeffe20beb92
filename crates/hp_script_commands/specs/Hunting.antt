-- What comes of `hugepool find` and `hugepool minimize`.
use Rattle.std.specs.Prelude.{◌≡◌, ℕ, Bool, true, false, List, Option, Result, Ok, Err}
use Rattle.std.specs.Io.KnownBytes.{Appends}
use Rattle.hp_base.specs.Text.{Sizes, sizes}
use Rattle.hp_base.specs.declared.config.Config.{Config}
use Rattle.hp_base.specs.declared.event.Event.{Event}
use Rattle.hp_hunt.specs.Conditions.{SomeRunMisses}
use Rattle.hp_hunt.specs.Cutting.{IsSmall}
use Rattle.hp_hunt.specs.Hunting.{IsFound, NoneMeets}
use Rattle.hp_hunt.specs.declared.condition.Condition.{Condition}
use Rattle.hp_hunt.specs.declared.finding.Found.{Found}
use Rattle.hp_program.specs.Answers.{AnsweredHunt, OfScript, OfTrace}
use Rattle.hp_text.specs.Collecting.{ReadsTrace}
use Rattle.hp_text.specs.ScriptLines.{HasLinesFault, ReadsScript}
use Rattle.hp_text.specs.Traces.{HasFault, trace_text}
use Rattle.hp_text.specs.Writing.{Wrote}
use Rattle.hp_text.specs.declared.fault.ReplayFault.{ReplayFault}
use Rattle.hp_text.specs.declared.script.Script.{Script}
use Rattle.hp_command.specs.declared.request.Search.{Search}

-- A reader had the bytes `from` left, and now has `to`; an output held `before`, and now holds `after`.

-- a script was read, and the first of its runs that meets the conditions written as a trace
pub record Finds (s : Search) (from to before after : Option (List ℕ)) : Type 0 where
  pub script : Script
  pub found : Found
  pub reads : ReadsScript from to (sizes script.config) script.calls.items script.waits.items
  pub is : IsFound script s.hunt s.conditions.items found
  pub wrote : Appends before after (trace_text (sizes script.config) found.trace.events.items)

-- a script was read, and a front of that trace written
pub record FindsPartly (s : Search) (from to before after : Option (List ℕ)) : Type 0 where
  pub script : Script
  pub found : Found
  pub reads : ReadsScript from to (sizes script.config) script.calls.items script.waits.items
  pub is : IsFound script s.hunt s.conditions.items found
  pub wrote : Wrote before after (trace_text (sizes script.config) found.trace.events.items)

-- a script was read, and none of its runs up to the limit meets the conditions
pub record FindsNone (s : Search) (from to : Option (List ℕ)) : Type 0 where
  pub script : Script
  pub reads : ReadsScript from to (sizes script.config) script.calls.items script.waits.items
  pub none : NoneMeets script s.hunt s.conditions.items s.hunt.limit

-- the trace of the first run of the script that meets the conditions
pub record IsFinding (s : Search) (script : Script) (text : List ℕ) : Type 0 where
  pub found : Found
  pub is : IsFound script s.hunt s.conditions.items found
  pub spelt : text ≡ trace_text (sizes script.config) found.trace.events.items

-- a trace was read, and what is left of it written, which still meets the conditions
pub record Minimizes (conditions : List Condition) (from to before after : Option (List ℕ)) : Type 0 where
  pub config : Config
  pub events : List Event
  pub left : List Event
  pub reads : ReadsTrace from to (sizes config) events
  pub small : IsSmall config events conditions left
  pub wrote : Appends before after (trace_text (sizes config) left)

-- a trace was read, and a front of what is left of it written
pub record MinimizesPartly (conditions : List Condition) (from to before after : Option (List ℕ)) : Type 0 where
  pub config : Config
  pub events : List Event
  pub left : List Event
  pub reads : ReadsTrace from to (sizes config) events
  pub small : IsSmall config events conditions left
  pub wrote : Wrote before after (trace_text (sizes config) left)

-- a trace was read that doesn't meet the conditions
pub record MinimizesNone (conditions : List Condition) (from to : Option (List ℕ)) : Type 0 where
  pub config : Config
  pub events : List Event
  pub reads : ReadsTrace from to (sizes config) events
  pub misses : SomeRunMisses config events conditions

-- what is left of a trace of these events, as text
pub record IsMinimized (conditions : List Condition) (z : Sizes) (events : List Event) (text : List ℕ) : Type 0 where
  pub config : Config
  pub left : List Event
  pub sized : z ≡ sizes config
  pub small : IsSmall config events conditions left
  pub spelt : text ≡ trace_text (sizes config) left

-- the status of a search: 1 where nothing was found, and 2 after a fault
abbrev pub status_of_hunt : Result Bool ReplayFault → ℕ
status_of_hunt (Ok true) = 0
status_of_hunt (Ok false) = 1
status_of_hunt (Err fault) = 2

-- what is answered: whether a run meets the conditions
abbrev pub AnsweredFind : Search → Result Bool ReplayFault → Option (List ℕ) → Option (List ℕ) → (old new : ℕ)
    → Option (List ℕ) → Option (Option (List ℕ)) → Type 0
AnsweredFind s answer from to old new before after =
    AnsweredHunt (Finds s) (FindsNone s) (OfScript (IsFinding s)) HasLinesFault answer from to old new before after

-- and whether the trace does
abbrev pub AnsweredMinimize : List Condition → Result Bool ReplayFault → Option (List ℕ) → Option (List ℕ) → (old new : ℕ)
    → Option (List ℕ) → Option (Option (List ℕ)) → Type 0
AnsweredMinimize conditions answer from to old new before after =
    AnsweredHunt (Minimizes conditions) (MinimizesNone conditions) (OfTrace (IsMinimized conditions)) HasFault answer from to old new before
    after
