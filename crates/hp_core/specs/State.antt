-- A core as the machine sees it.
use Rattle.std.specs.Prelude.{ℕ, ◌-◌, ◌==◌, List, Option, None, slice_index_or, if◌then◌else◌}
use Rattle.hp_base.specs.Text.{Sizes}
use Rattle.hp_machine.specs.State.{State}
use Rattle.hp_machine.specs.declared.call.Call.{Call}
use Rattle.hp_machine.specs.declared.outcome.Life.{Life}
use Rattle.hp_machine.specs.declared.outcome.Life.TheVariants.{Dead}
use Rattle.hp_parts.specs.State.{PartsState}
use Rattle.hp_parts.specs.View.{pool_of}
use Rattle.hp_core.specs.declared.task_state.TaskState.{TaskState}

-- the numbers of its config, what its parts keep, the state of each task, and for how many task states it has taken memory
pub record CoreState : Type 0 where
  pub sizes : Sizes
  pub parts : PartsState
  pub task_states : List TaskState
  pub capacity : ℕ

-- stands for a task that isn't there: it is as good as dead
abbrev pub no_task_state : TaskState
no_task_state = record { life = Dead; call = None }

-- tasks are counted from 1
abbrev pub task_state_at : List TaskState → ℕ → TaskState
task_state_at task_states task = if task == 0 then no_task_state else slice_index_or task_states (task - 1) no_task_state

unfoldable pub calls_of : List TaskState → ℕ → Option Call
calls_of task_states t = (task_state_at task_states t).call

unfoldable pub lives_of : List TaskState → ℕ → Life
lives_of task_states t = (task_state_at task_states t).life

-- the parts and the task states as a state of the machine
abbrev pub state_with : PartsState → List TaskState → State
state_with p task_states = record { pool = pool_of p; life = lives_of task_states; calls = calls_of task_states }

abbrev pub as_state : CoreState → State
as_state s = state_with s.parts s.task_states
