-- What an export answers that a script is given to.
use Rattle.std.specs.Prelude.{◌≡◌, ◌⊎◌, ◌≤◌, ℕ, List, Option, Some, length}
use Rattle.hp_base.specs.Text.{sizes}
use Rattle.hp_base.specs.declared.event.Event.{Event}
use Rattle.hp_conditions.specs.Lines.{IsFaultOf}
use Rattle.hp_conditions.specs.declared.lines.ConditionsFault.TheVariants as lines
use Rattle.hp_every.specs.Schedules.{IsShortest, NoScheduleMeets, ScheduleMeets}
use Rattle.hp_every.specs.Search.{Question}
use Rattle.hp_hunt.specs.Hunting.{IsFound, NoneMeets as NoRunMeets}
use Rattle.hp_hunt.specs.declared.condition.Condition.{Condition}
use Rattle.hp_hunt.specs.declared.finding.Found.{Found}
use Rattle.hp_hunt.specs.declared.finding.Hunt.{Hunt}
use Rattle.hp_search.specs.Searching.{AreLong, IsTooMany}
use Rattle.hp_text.specs.ScriptLines.{HasLinesFault, ReadsScript}
use Rattle.hp_text.specs.Traces.{trace_text}
use Rattle.hp_text.specs.declared.fault.ReplayFault.{ReplayFault}
use Rattle.hp_text.specs.declared.fault.ReplayFault.TheVariants as fault
use Rattle.hp_text.specs.declared.script.Script.{Script}
use Rattle.hp_watch.specs.Moments.{Moment}
use Rattle.hp_c.specs.Codes.{too_small}
use Rattle.hp_c.specs.Searches.{IsFaultBehind, Says, UnfoundCodes}
use Rattle.hp_c.specs.Texts.{IsTooLong}
use Rattle.hp_c.specs.declared.search_words.BoundsWords.{BoundsWords}
use Rattle.hp_c.specs.declared.search_words.HuntWords.{HuntWords}
use Rattle.hp_c.specs.declared.unfound.Unfound.{Unfound}
use Rattle.hp_c.specs.declared.unfound.Unfound.TheVariants.{BadCondition, Fault, NoneMeets, LimitReached}

-- ---- a run of a script

-- a fault that bytes in memory may have as a script
abbrev pub HasScriptFault : (bytes : List ℕ) → ReplayFault → Type 0
HasScriptFault bytes (fault.BadLine n) = HasLinesFault bytes (fault.BadLine n)
HasScriptFault bytes fault.BadHeader = HasLinesFault bytes fault.BadHeader
HasScriptFault bytes fault.Memory = Unit {0}
HasScriptFault bytes fault.Write = Unit {0}
HasScriptFault bytes fault.Read = ⊥

-- the runs that the numbers name
abbrev pub hunt_of : HuntWords → Hunt
hunt_of w = record { seed = w.seed; limit = w.limit; chances = record { deny = w.deny; kill = w.kill } }

-- the bytes are the text of a script, and say these conditions
pub record IsAsked (script conditions : List ℕ) (read : Script) (asked : List Condition) : Type 0 where
  pub rest : Option (List ℕ)
  pub reads : ReadsScript (Some script) rest (sizes read.config) read.calls.items read.waits.items
  pub says : Says conditions asked

-- the text is the trace of the first of these runs that meets the conditions, which has this number
pub record FindsRun (w : HuntWords) (script conditions : List ℕ) (run : ℕ) (text : List ℕ) : Type 0 where
  pub read : Script
  pub asked : List Condition
  pub found : Found
  pub of : IsAsked script conditions read asked
  pub is : IsFound read (hunt_of w) asked found
  pub number : run ≡ found.run
  pub spelt : text ≡ trace_text (sizes read.config) found.trace.events.items

-- none of them meets them
pub record FindsNoRun (w : HuntWords) (script conditions : List ℕ) : Type 0 where
  pub read : Script
  pub asked : List Condition
  pub of : IsAsked script conditions read asked
  pub none : NoRunMeets read (hunt_of w) asked w.limit

-- why no run is found
abbrev pub WhyNoRun : HuntWords → (script conditions : List ℕ) → Unfound → Type 0
WhyNoRun w script conditions (BadCondition number) = IsFaultOf conditions (lines.Line number)
WhyNoRun w script conditions NoneMeets = FindsNoRun w script conditions
WhyNoRun w script conditions (LimitReached turns) = ⊥
WhyNoRun w script conditions (Fault why) = IsFaultBehind conditions (HasScriptFault script) why

-- ---- all schedules of a script

-- the text is the trace of a shortest schedule that meets the conditions
pub record FindsShortest (w : BoundsWords) (script conditions text : List ℕ) : Type 0 where
  pub read : Script
  pub asked : List Condition
  pub events : List Event
  pub of : IsAsked script conditions read asked
  pub is : IsShortest read w.denials w.kills asked events
  pub spelt : text ≡ trace_text (sizes read.config) events

-- no schedule meets them
pub record FindsNoSchedule (w : BoundsWords) (script conditions : List ℕ) : Type 0 where
  pub read : Script
  pub asked : List Condition
  pub of : IsAsked script conditions read asked
  pub none : NoScheduleMeets read w.denials w.kills asked

-- what is asked of a script
abbrev pub question_of : BoundsWords → Script → List Condition → Question
question_of w read asked = record { script = read; denials = w.denials; kills = w.kills; conditions = asked }

-- no schedule of fewer turns than that meets them: a million, up to which schedules go on, or as many as have more places than may be kept
pub record FindsNoShort (w : BoundsWords) (script conditions : List ℕ) (turns : ℕ) : Type 0 where
  pub read : Script
  pub asked : List Condition
  pub of : IsAsked script conditions read asked
  pub none : (moments : List Moment) → ScheduleMeets read w.denials w.kills asked moments → turns ≤ length moments
  pub why : ((turns ≡ 1000000) × AreLong (question_of w read asked) turns) ⊎ IsTooMany (question_of w read asked) w.states turns

-- why no schedule is found
abbrev pub WhyNoSchedule : BoundsWords → (script conditions : List ℕ) → Unfound → Type 0
WhyNoSchedule w script conditions (BadCondition number) = IsFaultOf conditions (lines.Line number)
WhyNoSchedule w script conditions NoneMeets = FindsNoSchedule w script conditions
WhyNoSchedule w script conditions (LimitReached turns) = FindsNoShort w script conditions turns
WhyNoSchedule w script conditions (Fault why) = IsFaultBehind conditions (HasScriptFault script) why

-- the turns at which the limits were reached; 0 where they weren't
abbrev pub turns_of : Unfound → ℕ
turns_of (BadCondition number) = 0
turns_of NoneMeets = 0
turns_of (LimitReached turns) = turns
turns_of (Fault why) = 0

-- nothing is shown, and the turns at which the limits were reached are told
abbrev pub NotFoundAt : (Is : List ℕ → Type 0) → (Why : Unfound → Type 0) → (room needed code line turns : ℕ) → Type 0
NotFoundAt Is Why room needed code line turns =
    (code ≡ too_small) × IsTooLong Is room needed line × (turns ≡ 0)
    ⊎ (needed ≡ 0) × ((why : Unfound) × Why why × UnfoundCodes why code line × (turns ≡ turns_of why))
