-- What happens to the pool of a draft where something is asked for, and why it isn't added.
use Rattle.std.specs.Prelude.{◌≡◌, ◌≤◌, ◌<◌, ◌+◌, ◌⊎◌, ℕ, zero, suc, true, List, [], Option, None, Some, length, replicate}
use Rattle.hp_base.specs.declared.event.Event.{Event}
use Rattle.hp_base.specs.declared.event.Event.TheVariants.{Step}
use Rattle.hp_core.specs.Runs.{Row}
use Rattle.hp_core.specs.State.{CoreState}
use Rattle.hp_machine.specs.declared.outcome.Outcome.{Outcome}
use Rattle.hp_machine.specs.declared.outcome.Outcome.TheVariants as outcome
use Rattle.hp_format.specs.Drafts.{Reaches}
use Rattle.hp_format.specs.declared.asked.Asked.{Asked}
use Rattle.hp_format.specs.declared.asked.Asked.TheVariants.{Nothing, Times, Until}
use Rattle.hp_format.specs.declared.asked.Goal.{Goal}
use Rattle.hp_format.specs.declared.draft.Unadded.{Unadded}
use Rattle.hp_format.specs.declared.draft.Unadded.TheVariants as unadded
use Rattle.hp_format.specs.declared.fault.Reason.{Reason}
use Rattle.hp_format.specs.declared.fault.Reason.TheVariants as reason

-- why no later step reaches anything: the call has ended, or its next step is held back
abbrev pub stop_of : Outcome → Option Reason
stop_of outcome.Begun = None
stop_of (outcome.Moved at) = None
stop_of (outcome.Blocked holder) = Some (reason.Blocked holder)
stop_of (outcome.Ended answer) = Some (reason.Ended answer)
stop_of outcome.Marked = None
stop_of (outcome.Resized frames) = None
stop_of (outcome.Refused why) = Some (reason.Refused why)

-- the outcome doesn't reach it, and a later step may
abbrev pub GoesOn : Goal → Outcome → Type 0
GoesOn goal outcome = (Reaches goal outcome → ⊥) × (stop_of outcome ≡ None)

-- whatever the outcome
abbrev pub IsAny : Outcome → Type 0
IsAny outcome = Unit {0}

-- the event happens so many times, one after the other, each time with an outcome of which P holds, and leads there
unfoldable pub Repeats : (P : Outcome → Type 0) → CoreState → Event → (times : ℕ) → CoreState → Type 0
Repeats P core event zero new = new ≡ core
Repeats P core event (suc n) new =
    (mid : CoreState) × (outcome : Outcome) × Repeats P core event n mid × Row mid event outcome new × P outcome

-- steps of the task go on so many times, and the next one reaches it
pub record StepsUntil (core : CoreState) (task : ℕ) (goal : Goal) (before : ℕ) (new : CoreState) : Type 0 where
  pub mid : CoreState
  pub last : Outcome
  pub steps : Repeats (GoesOn goal) core (Step task true) before mid
  pub row : Row mid (Step task true) last new
  pub reached : Reaches goal last

-- the events that are written for what was asked, and the core to which they lead
abbrev pub Leads : CoreState → Asked → List Event → CoreState → Type 0
Leads core Nothing events new = (events ≡ []) × (new ≡ core)
Leads core (Times event times) events new = (events ≡ replicate times event) × Repeats IsAny core event times new
Leads core (Until task goal) events new =
    (before : ℕ) × (events ≡ replicate (suc before) (Step task true)) × StepsUntil core task goal before new

-- the next step stops the steps for this reason
pub record Stops (core : CoreState) (task : ℕ) (goal : Goal) (why : Reason) : Type 0 where
  pub last : Outcome
  pub new : CoreState
  pub row : Row core (Step task true) last new
  pub misses : Reaches goal last → ⊥
  pub stop : stop_of last ≡ Some why

-- steps of the task go on so many times, and no more is written: there are as many events as a trace has, or the next step stops
pub record StepsInVain (core : CoreState) (events : List Event) (task : ℕ) (goal : Goal) (why : Reason) : Type 0 where
  pub before : ℕ
  pub mid : CoreState
  pub steps : Repeats (GoesOn goal) core (Step task true) before mid
  pub bad : (why ≡ reason.TooMany) × (1000000 ≤ length events + before) ⊎ Stops mid task goal why

-- why what was asked for isn't added behind these events
abbrev pub IsUnadded : CoreState → List Event → Asked → Reason → Type 0
IsUnadded core events Nothing why = ⊥
IsUnadded core events (Times event times) why = (why ≡ reason.TooMany) × (1000000 < length events + times)
IsUnadded core events (Until task goal) why = StepsInVain core events task goal why

-- so is it, or there was no memory
abbrev pub IsUnaddedFor : CoreState → List Event → Asked → Unadded → Type 0
IsUnaddedFor core events asked unadded.Memory = Unit {0}
IsUnaddedFor core events asked (unadded.Reason why) = IsUnadded core events asked why
