-- What an export answers of a search.
use Rattle.std.specs.Prelude.{◌≡◌, ◌⊎◌, ℕ, List, Option, Some, Ok}
use Rattle.hp_base.specs.Text.{sizes}
use Rattle.hp_base.specs.declared.config.Config.{Config}
use Rattle.hp_base.specs.declared.event.Event.{Event}
use Rattle.hp_conditions.specs.Lines.{IsFaultOf, conditions_of}
use Rattle.hp_conditions.specs.declared.lines.ConditionsFault.{ConditionsFault}
use Rattle.hp_conditions.specs.declared.lines.ConditionsFault.TheVariants as lines
use Rattle.hp_hunt.specs.Conditions.{SomeRunMisses}
use Rattle.hp_hunt.specs.Cutting.{IsSmall}
use Rattle.hp_hunt.specs.declared.condition.Condition.{Condition}
use Rattle.hp_text.specs.Collecting.{ReadsTrace}
use Rattle.hp_text.specs.Traces.{IsLineFault, trace_text}
use Rattle.hp_text.specs.declared.fault.ReplayFault.{ReplayFault}
use Rattle.hp_text.specs.declared.fault.ReplayFault.TheVariants as fault
use Rattle.hp_c.specs.Codes.{bad_condition, limit_reached, none_meets, too_small}
use Rattle.hp_c.specs.Texts.{Codes, HasFaultTold, IsTooLong}
use Rattle.hp_c.specs.declared.unfound.Unfound.{Unfound}
use Rattle.hp_c.specs.declared.unfound.Unfound.TheVariants.{BadCondition, Fault, NoneMeets, LimitReached}

-- ---- the conditions

-- the bytes say these conditions
abbrev pub Says : (bytes : List ℕ) → List Condition → Type 0
Says bytes conditions = conditions_of bytes ≡ Ok conditions

-- they say some
abbrev pub SaysSome : (bytes : List ℕ) → Type 0
SaysSome bytes = (conditions : List Condition) × Says bytes conditions

-- why no conditions are read, as a reason why nothing is found
abbrev pub unread : ConditionsFault → Unfound
unread (lines.Line number) = BadCondition number
unread lines.Memory = Fault fault.Memory

-- ---- codes

-- the code and the line by which it is told why nothing is found
abbrev pub UnfoundCodes : Unfound → (code line : ℕ) → Type 0
UnfoundCodes (BadCondition number) code line = (code ≡ bad_condition) × (line ≡ number)
UnfoundCodes NoneMeets code line = (code ≡ none_meets) × (line ≡ 0)
UnfoundCodes (LimitReached turns) code line = (code ≡ limit_reached) × (line ≡ 0)
UnfoundCodes (Fault why) code line = Codes why code line

-- nothing is shown: the room is too small for such a text, or nothing is found, for such a reason
abbrev pub NotFound : (Is : List ℕ → Type 0) → (Why : Unfound → Type 0) → (room needed code line : ℕ) → Type 0
NotFound Is Why room needed code line =
    (code ≡ too_small) × IsTooLong Is room needed line ⊎ (needed ≡ 0) × ((why : Unfound) × Why why × UnfoundCodes why code line)

-- ---- a small trace

-- the text is what is left of the trace, which still meets the conditions
pub record Minimizes (trace conditions text : List ℕ) : Type 0 where
  pub config : Config
  pub events : List Event
  pub asked : List Condition
  pub left : List Event
  pub rest : Option (List ℕ)
  pub says : Says conditions asked
  pub reads : ReadsTrace (Some trace) rest (sizes config) events
  pub small : IsSmall config events asked left
  pub spelt : text ≡ trace_text (sizes config) left

-- a run of the trace doesn't meet them
pub record Misses (trace conditions : List ℕ) : Type 0 where
  pub config : Config
  pub events : List Event
  pub asked : List Condition
  pub rest : Option (List ℕ)
  pub says : Says conditions asked
  pub reads : ReadsTrace (Some trace) rest (sizes config) events
  pub misses : SomeRunMisses config events asked

-- a fault of the trace is told only where the conditions have none
abbrev pub IsFaultBehind : (conditions : List ℕ) → (Has : ReplayFault → Type 0) → ReplayFault → Type 0
IsFaultBehind conditions Has why = Has why × (IsLineFault why → SaysSome conditions)

-- why there is no small trace
abbrev pub WhyNotSmall : (trace conditions : List ℕ) → Unfound → Type 0
WhyNotSmall trace conditions (BadCondition number) = IsFaultOf conditions (lines.Line number)
WhyNotSmall trace conditions NoneMeets = Misses trace conditions
WhyNotSmall trace conditions (LimitReached turns) = ⊥
WhyNotSmall trace conditions (Fault why) = IsFaultBehind conditions (HasFaultTold trace) why
