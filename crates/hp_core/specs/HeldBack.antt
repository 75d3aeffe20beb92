-- Events that change nothing.
use Rattle.std.specs.Prelude.{ℕ, List, Option, Some, None}
use Rattle.hp_base.specs.declared.event.Event.{Event}
use Rattle.hp_base.specs.declared.event.Event.TheVariants.{Begin, Step, Kill, Resize}
use Rattle.hp_machine.specs.declared.outcome.Outcome.{Outcome}
use Rattle.hp_machine.specs.declared.outcome.Outcome.TheVariants.{Refused, Blocked}
use Rattle.hp_machine.specs.declared.outcome.Refusal.{Refusal}
use Rattle.hp_parts.specs.State.{PartsState}
use Rattle.hp_core.specs.declared.task_state.TaskState.{TaskState}
use Rattle.hp_core.specs.Blockers.{task_blocker}
use Rattle.hp_core.specs.State.{CoreState, task_state_at}
use Rattle.hp_core.specs.Runs.{Row, IsIdle}

-- The event would have that outcome and change nothing; or whatever it may do changes something
unfoldable pub HeldBack : CoreState → Event → Option Outcome → Type 0
HeldBack s event (Some outcome) = IsIdle outcome × Row s event outcome s
HeldBack s event None = (outcome : Outcome) (new : CoreState) → Row s event outcome new → IsIdle outcome → ⊥

-- who holds up the event: the holder that its step waits for
abbrev pub event_blocker : PartsState → List TaskState → Event → Option ℕ
event_blocker p task_states (Begin t op) = None
event_blocker p task_states (Step t grant) = task_blocker p (task_state_at task_states t)
event_blocker p task_states (Kill t) = None
event_blocker p task_states (Resize n) = None

-- the outcome of an event that is refused, or blocked
abbrev pub idle_outcome : Option Refusal → (holder : Option ℕ) → Option Outcome
idle_outcome (Some why) holder = Some (Refused why)
idle_outcome None (Some holder) = Some (Blocked holder)
idle_outcome None None = None
