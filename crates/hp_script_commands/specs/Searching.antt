-- What comes of `hugepool find --every`.
use Rattle.std.specs.Prelude.{◌≡◌, ◌≤◌, ◌⊎◌, ℕ, Bool, true, false, List, Option, None, Some, Result, Ok, Err, length}
use Rattle.std.specs.Io.KnownBytes.{Appends}
use Rattle.hp_base.specs.Text.{sizes}
use Rattle.hp_base.specs.declared.event.Event.{Event}
use Rattle.hp_watch.specs.Moments.{Moment}
use Rattle.hp_every.specs.Schedules.{IsShortest, NoScheduleMeets, ScheduleMeets}
use Rattle.hp_every.specs.Search.{Question}
use Rattle.hp_search.specs.Searching.{AreLong, IsTooHeavy, IsTooMany}
use Rattle.hp_program.specs.Answers.{AnsweredHunt, OfScript}
use Rattle.hp_text.specs.ScriptLines.{HasLinesFault, ReadsScript}
use Rattle.hp_text.specs.Traces.{trace_text}
use Rattle.hp_text.specs.Writing.{Wrote}
use Rattle.hp_text.specs.declared.fault.ReplayFault.{ReplayFault}
use Rattle.hp_text.specs.declared.script.Script.{Script}
use Rattle.hp_command.specs.declared.request.EverySearch.{EverySearch}

-- A reader had the bytes `from` left, and now has `to`; an output held `before`, and now holds `after`.

-- these are the events of a shortest schedule of the script that meets the conditions
abbrev pub IsShortestOf : EverySearch → Script → List Event → Type 0
IsShortestOf s script events = IsShortest script s.denials s.kills s.conditions.items events

-- a script was read, and such a schedule written as a trace
pub record FindsEvery (s : EverySearch) (from to before after : Option (List ℕ)) : Type 0 where
  pub script : Script
  pub events : List Event
  pub reads : ReadsScript from to (sizes script.config) script.calls.items script.waits.items
  pub is : IsShortestOf s script events
  pub wrote : Appends before after (trace_text (sizes script.config) events)

-- a script was read, and a front of that trace written
pub record FindsEveryPartly (s : EverySearch) (from to before after : Option (List ℕ)) : Type 0 where
  pub script : Script
  pub events : List Event
  pub reads : ReadsScript from to (sizes script.config) script.calls.items script.waits.items
  pub is : IsShortestOf s script events
  pub wrote : Wrote before after (trace_text (sizes script.config) events)

-- what is asked of the script
abbrev pub asked_of : EverySearch → Script → Question
asked_of s script = record { script = script; denials = s.denials; kills = s.kills; conditions = s.conditions.items }

-- no schedule meets the conditions, or none of fewer turns than that: a million, up to which schedules go on, or as many as have more places,
-- or take more memory, than may be
abbrev pub NoneOf : EverySearch → (cut : Option ℕ) → Script → Type 0
NoneOf s None script = NoScheduleMeets script s.denials s.kills s.conditions.items
NoneOf s (Some turns) script =
    ((moments : List Moment) → ScheduleMeets script s.denials s.kills s.conditions.items moments → turns ≤ length moments)
    × (((turns ≡ 1000000) × AreLong (asked_of s script) turns) ⊎ IsTooMany (asked_of s script) s.states turns
    ⊎ IsTooHeavy (asked_of s script) s.memory turns)

-- a script was read of which this is so
pub record MissesEvery (s : EverySearch) (cut : Option ℕ) (from to : Option (List ℕ)) : Type 0 where
  pub script : Script
  pub reads : ReadsScript from to (sizes script.config) script.calls.items script.waits.items
  pub none : NoneOf s cut script

-- the trace of a shortest schedule of the script that meets the conditions
pub record IsShortestText (s : EverySearch) (script : Script) (text : List ℕ) : Type 0 where
  pub events : List Event
  pub is : IsShortestOf s script events
  pub spelt : text ≡ trace_text (sizes script.config) events

-- what is answered: whether a schedule meets the conditions
abbrev pub AnsweredEvery : EverySearch → (cut : Option ℕ) → Result Bool ReplayFault → Option (List ℕ) → Option (List ℕ) → (old new : ℕ)
    → Option (List ℕ) → Option (Option (List ℕ)) → Type 0
AnsweredEvery s cut answer from to old new before after =
    AnsweredHunt (FindsEvery s) (MissesEvery s cut) (OfScript (IsShortestText s)) HasLinesFault answer from to old new before after

-- 1 where no schedule meets them, 3 where the limits ran out, and 2 after a fault
abbrev pub status_of_every : (cut : Option ℕ) → Result Bool ReplayFault → ℕ
status_of_every cut (Ok true) = 0
status_of_every None (Ok false) = 1
status_of_every (Some turns) (Ok false) = 3
status_of_every cut (Err fault) = 2
