-- What an event makes of the task states, as lists: what the code does before it is read as the machine.
use Rattle.std.specs.Prelude.{◌≡◌, ◌≤◌, ℕ, Bool, ◌-◌, List, Some, IfSome, length, slice_set, MatchOption}
use Rattle.hp_base.specs.declared.event.Op.{Op}
use Rattle.hp_base.specs.declared.event.Event.{Event}
use Rattle.hp_base.specs.declared.event.Event.TheVariants.{Begin, Step, Kill, Resize}
use Rattle.hp_machine.specs.State.{is_killed}
use Rattle.hp_machine.specs.Events.{first, CallRow}
use Rattle.hp_machine.specs.Resizes.{ResizeRow}
use Rattle.hp_machine.specs.Standings.{standing}
use Rattle.hp_machine.specs.declared.outcome.Life.TheVariants.{Killed}
use Rattle.hp_machine.specs.declared.outcome.Outcome.{Outcome}
use Rattle.hp_machine.specs.declared.outcome.Outcome.TheVariants.{Begun, Marked, Refused}
use Rattle.hp_parts.specs.Turns.{IfWanting}
use Rattle.hp_parts.specs.State.{PartsState}
use Rattle.hp_parts.specs.View.{pool_of}
use Rattle.hp_core.specs.declared.task_state.TaskState.{TaskState}
use Rattle.hp_core.specs.State.{task_state_at}
use Rattle.hp_core.specs.Refusals.{refusal_of}
use Rattle.hp_core.specs.Turns.{life_after}

-- the task is one of those that have a task state
abbrev pub HasTaskState : List TaskState → (task : ℕ) → Type 0
HasTaskState task_states t = (1 ≤ t) × (t ≤ length task_states)

-- the task's state is that one
abbrev pub with_task_state : List TaskState → (task : ℕ) → TaskState → List TaskState
with_task_state task_states t task_state = slice_set task_states (t - 1) task_state

-- the task's call is in flight
abbrev pub with_call : List TaskState → (task : ℕ) → Op → List TaskState
with_call task_states t op =
    with_task_state task_states t (record { life = (task_state_at task_states t).life; call = Some (first op) })

-- the task is killed, and its call goes on
abbrev pub with_kill : List TaskState → (task : ℕ) → List TaskState
with_kill task_states t = with_task_state task_states t (record { life = Killed; call = (task_state_at task_states t).call })

-- what a step makes of the parts and the task states where the task has a call
unfoldable pub StepTaskStates : PartsState → List TaskState → (task : ℕ) → (grant : Bool) → Outcome → PartsState → List TaskState → Type 0
StepTaskStates p task_states t grant outcome after new =
    IfSome (task_state_at task_states t).call (λ inflight. (task_state : TaskState)
    × CallRow (pool_of p) t (is_killed (task_state_at task_states t).life) grant inflight outcome (pool_of after) task_state.call
    × (task_state.life ≡ life_after (task_state_at task_states t).life inflight task_state.call)
    × (new ≡ with_task_state task_states t task_state))

-- what an event that isn't refused makes of them
unfoldable pub AdmittedTaskStates : PartsState → List TaskState → Event → Outcome → PartsState → List TaskState → Type 0
AdmittedTaskStates p task_states (Begin t op) outcome after new = (outcome ≡ Begun) × (after ≡ p) × (new ≡ with_call task_states t op)
AdmittedTaskStates p task_states (Step t grant) outcome after new = StepTaskStates p task_states t grant outcome after new
AdmittedTaskStates p task_states (Kill t) outcome after new = (outcome ≡ Marked) × (after ≡ p) × (new ≡ with_kill task_states t)
AdmittedTaskStates p task_states (Resize frames) outcome after new =
    ResizeRow (pool_of p) frames outcome (pool_of after) × (new ≡ task_states)

-- what an event makes of them: nothing, where it is refused
unfoldable pub EventTaskStates : PartsState → List TaskState → Event → Outcome → PartsState → List TaskState → Type 0
EventTaskStates p task_states event outcome after new =
    MatchOption (refusal_of task_states event)
    (AdmittedTaskStates p task_states event outcome after new)
    (λ why. (outcome ≡ Refused why) × (after ≡ p) × (new ≡ task_states))

-- where a step is blocked, parts and task states are what they were; no other event is
abbrev pub BlockedStays : PartsState → List TaskState → Event → PartsState → List TaskState → Type 0
BlockedStays p task_states (Begin t op) after new = ⊥
BlockedStays p task_states (Step t grant) after new =
    IfSome (task_state_at task_states t).call (λ inflight. IfWanting (standing inflight).wants ((after ≡ p) × (new ≡ task_states)))
BlockedStays p task_states (Kill t) after new = ⊥
BlockedStays p task_states (Resize frames) after new = ⊥
