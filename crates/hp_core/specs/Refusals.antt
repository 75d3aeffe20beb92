-- Why an event is refused, if it is.
use Rattle.std.specs.Prelude.{Bool, true, false, not, ◌&&◌, List, Option, Some, None, if◌then◌else◌}
use Rattle.hp_base.specs.declared.event.Event.{Event}
use Rattle.hp_base.specs.declared.event.Event.TheVariants.{Begin, Step, Kill, Resize}
use Rattle.hp_machine.specs.State.{is_alive, is_killed, is_dead}
use Rattle.hp_machine.specs.Events.{is_exit}
use Rattle.hp_machine.specs.Resizes.{is_size}
use Rattle.hp_machine.specs.declared.call.Call.{Call}
use Rattle.hp_machine.specs.declared.outcome.Refusal.{Refusal}
use Rattle.hp_machine.specs.declared.outcome.Refusal.TheVariants.{NotAlive, InCall, Idle, BadSize}
use Rattle.hp_core.specs.declared.task_state.TaskState.{TaskState}
use Rattle.hp_core.specs.State.{task_state_at}

-- why a begin of a task that isn't dead is refused, if it is
abbrev pub refusal_beside : Option Call → (killed_and_goes_on : Bool) → Option Refusal
refusal_beside (Some c) k = Some InCall
refusal_beside None true = Some NotAlive
refusal_beside None false = None

-- why a step is, where a call is in flight or none is
abbrev pub idle_unless : Option Call → Option Refusal
idle_unless None = Some Idle
idle_unless (Some c) = None

-- why the event is refused, if it is
abbrev pub refusal_of : List TaskState → Event → Option Refusal
refusal_of task_states (Begin t op) =
    if is_dead (task_state_at task_states t).life then Some NotAlive
    else refusal_beside (task_state_at task_states t).call (is_killed (task_state_at task_states t).life && not (is_exit op))
refusal_of task_states (Step t grant) =
    if is_dead (task_state_at task_states t).life then Some NotAlive else idle_unless (task_state_at task_states t).call
refusal_of task_states (Kill t) = if is_alive (task_state_at task_states t).life then None else Some NotAlive
refusal_of task_states (Resize n) = if is_size n then None else Some BadSize
