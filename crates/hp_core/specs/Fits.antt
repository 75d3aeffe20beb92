-- What a step of a call takes for granted of the parts.
use Rattle.std.specs.Prelude.{ℕ, List, IfSome}
use Rattle.hp_base.specs.declared.event.Event.{Event}
use Rattle.hp_base.specs.declared.event.Event.TheVariants.{Begin, Step, Kill, Resize}
use Rattle.hp_machine.specs.declared.call.Call.{Call}
use Rattle.hp_machine.specs.declared.call.Call.TheVariants as call
use Rattle.hp_fault.specs.Fits.{MapFits, TouchFits, AllocFits}
use Rattle.hp_remove.specs.Fits.{PunchFits, TruncateFits, UnmapFits, ExitFits}
use Rattle.hp_parts.specs.State.{PartsState, IsSized}
use Rattle.hp_parts.specs.View.{pool_of}
use Rattle.hp_core.specs.declared.task_state.TaskState.{TaskState}
use Rattle.hp_core.specs.State.{task_state_at}

abbrev pub CallFits : PartsState → (task : ℕ) → Call → Type 0
CallFits p t (call.Touch phase) = TouchFits (pool_of p) t phase
CallFits p t (call.Map phase) = IsSized p × MapFits (pool_of p) t phase
CallFits p t (call.Alloc phase) = IsSized p × AllocFits (pool_of p) t phase
CallFits p t (call.Punch phase) = IsSized p × PunchFits (pool_of p) t phase
CallFits p t (call.Truncate phase) = IsSized p × TruncateFits (pool_of p) t phase
CallFits p t (call.Unmap phase) = UnmapFits (pool_of p) t phase
CallFits p t (call.Exit phase) = ExitFits (pool_of p) t phase

-- what a step of the task's call takes for granted
abbrev pub StepFits : PartsState → List TaskState → (task : ℕ) → Type 0
StepFits p task_states t = IfSome (task_state_at task_states t).call (λ inflight. CallFits p t inflight)

abbrev pub EventFits : PartsState → List TaskState → Event → Type 0
EventFits p task_states (Begin task op) = Unit {0}
EventFits p task_states (Step task grant) = StepFits p task_states task
EventFits p task_states (Kill task) = Unit {0}
EventFits p task_states (Resize frames) = Unit {0}
