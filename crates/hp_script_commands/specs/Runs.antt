-- What is answered to commands that run a script: lines of its runs, a summary of them, or one of them as a trace.
use Rattle.std.specs.Prelude.{◌≡◌, ℕ, Bool, List, Option, IfSome, Result}
use Rattle.std.specs.Io.KnownBytes.{Appends}
use Rattle.hp_base.specs.Text.{sizes}
use Rattle.hp_base.specs.declared.event.Event.{Event}
use Rattle.hp_command.specs.declared.request.Racing.{Racing}
use Rattle.hp_command.specs.declared.request.Scheduling.{Scheduling}
use Rattle.hp_explore.specs.Explored.{IsExplored}
use Rattle.hp_explore.specs.RunLines.{WroteRuns, WroteSomeRuns}
use Rattle.hp_explore.specs.declared.exploration.Exploration.{Exploration}
use Rattle.hp_explore.specs.declared.line.RunLine.{RunLine}
use Rattle.hp_summary.specs.declared.gathering.Survey.{Survey}
use Rattle.hp_program.specs.Answers.{AnsweredRuns, AnsweredText, OfScript}
use Rattle.hp_script_commands.specs.Racing.{HasRacedFault, Races, RacesPartly}
use Rattle.hp_script_commands.specs.Summing.{SumsUp, SumsUpPartly}
use Rattle.hp_text.specs.ScriptLines.{HasLinesFault, ReadsScript}
use Rattle.hp_text.specs.Traces.{trace_text}
use Rattle.hp_text.specs.Writing.{Wrote}
use Rattle.hp_text.specs.declared.fault.ReplayFault.{ReplayFault}
use Rattle.hp_text.specs.declared.script.Script.{Script}

-- A reader had the bytes `from` left, and now has `to`; an output held `before`, and now holds `after`.

-- a script was read, and a line written for each of its runs; all came to their ends, or some didn't
pub record Explores (e : Exploration) (finished : Bool) (from to before after : Option (List ℕ)) : Type 0 where
  pub script : Script
  pub reads : ReadsScript from to (sizes script.config) script.calls.items script.waits.items
  pub runs : WroteRuns script e finished before after

-- a script was read, and a front of the lines of some of its runs written
pub record ExploresPartly (e : Exploration) (from to before after : Option (List ℕ)) : Type 0 where
  pub script : Script
  pub reads : ReadsScript from to (sizes script.config) script.calls.items script.waits.items
  pub runs : WroteSomeRuns script e before after

-- a script was read, and the trace of that run written
pub record Schedules (s : Scheduling) (from to before after : Option (List ℕ)) : Type 0 where
  pub script : Script
  pub events : List Event
  pub line : RunLine
  pub reads : ReadsScript from to (sizes script.config) script.calls.items script.waits.items
  pub explored : IsExplored script s.seed s.chances.deny s.chances.kill s.run events line
  pub wrote : Appends before after (trace_text (sizes script.config) events)

-- a script was read, and a front of that trace written
pub record SchedulesPartly (s : Scheduling) (from to before after : Option (List ℕ)) : Type 0 where
  pub script : Script
  pub events : List Event
  pub line : RunLine
  pub reads : ReadsScript from to (sizes script.config) script.calls.items script.waits.items
  pub explored : IsExplored script s.seed s.chances.deny s.chances.kill s.run events line
  pub wrote : Wrote before after (trace_text (sizes script.config) events)

abbrev pub AnsweredExplore : Exploration → Result Bool ReplayFault → Option (List ℕ) → Option (List ℕ) → (old new : ℕ)
    → Option (List ℕ) → Option (Option (List ℕ)) → Type 0
AnsweredExplore e answer from to old new before after =
    AnsweredRuns (λ finished after. Explores e finished from to before after) (ExploresPartly e from to before)
    (λ fault. IfSome from (λ bytes. HasLinesFault bytes fault)) answer old new before after

abbrev pub AnsweredSummary : Survey → Result Bool ReplayFault → Option (List ℕ) → Option (List ℕ) → (old new : ℕ)
    → Option (List ℕ) → Option (Option (List ℕ)) → Type 0
AnsweredSummary v answer from to old new before after =
    AnsweredRuns (λ finished after. SumsUp v finished from to before after) (SumsUpPartly v from to before)
    (λ fault. IfSome from (λ bytes. HasLinesFault bytes fault)) answer old new before after

abbrev pub AnsweredRace : Racing → Result Bool ReplayFault → Option (List ℕ) → Option (List ℕ) → (old new : ℕ)
    → Option (List ℕ) → Option (Option (List ℕ)) → Type 0
AnsweredRace r answer from to old new before after =
    AnsweredRuns (λ closed after. Races r closed from to before after) (RacesPartly r from to before)
    (λ fault. IfSome from (λ bytes. HasRacedFault r bytes fault)) answer old new before after

-- the trace of that run of the script
pub record IsScheduled (s : Scheduling) (script : Script) (text : List ℕ) : Type 0 where
  pub events : List Event
  pub line : RunLine
  pub explored : IsExplored script s.seed s.chances.deny s.chances.kill s.run events line
  pub spelt : text ≡ trace_text (sizes script.config) events

abbrev pub AnsweredSchedule : Scheduling → Result (Unit {0}) ReplayFault → Option (List ℕ) → Option (List ℕ) → (old new : ℕ)
    → Option (List ℕ) → Option (Option (List ℕ)) → Type 0
AnsweredSchedule s answer from to old new before after =
    AnsweredText (Schedules s) (OfScript (IsScheduled s)) HasLinesFault answer from to old new before after
