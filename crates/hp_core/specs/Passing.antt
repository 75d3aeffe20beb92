-- From which phases a step may be blocked, and from which it may take or leave a slot or a lock; so which events may let others go on.
use Rattle.std.specs.Prelude.{ℕ, Bool, true, false, ◌||◌, Option, None, Some}
use Rattle.hp_base.specs.declared.event.Event.{Event}
use Rattle.hp_base.specs.declared.event.Event.TheVariants.{Begin, Step, Kill, Resize}
use Rattle.hp_machine.specs.declared.phase.Phase.{Phase}
use Rattle.hp_machine.specs.declared.phase.Phase.TheVariants as word
use Rattle.hp_laws.specs.Laws.{IsOf}
use Rattle.hp_core.specs.State.{CoreState}
use Rattle.hp_core.specs.Readers.{phase_of}
use Rattle.hp_core.specs.Waiting.{WaitsFor}

-- what the next step of a call may do with slots and locks: acquire one, for which it may have to wait; leave one; neither, so that
-- it keeps what it holds
pub data Passing : Type 0 where
  Acquires : Passing
  Leaves : Passing
  Keeps : Passing

-- the next step of a call that stands there, whatever its operation
abbrev pub passing : Phase → Passing
passing word.Start = Acquires
passing word.Look = Keeps
passing word.Want = Acquires
passing word.Locked = Keeps
passing word.Missing = Keeps
passing word.Changed = Keeps
passing word.Abort = Keeps
passing word.Taken = Keeps
passing word.Settle = Keeps
passing word.Committed = Keeps
passing word.Restore = Keeps
passing word.Found = Keeps
passing word.Leave = Leaves
passing word.Room = Keeps
passing word.Accounted = Keeps
passing word.Enter = Keeps
passing word.Head = Keeps
passing word.Unslot = Leaves
passing word.Extend = Keeps
passing word.Unmap = Keeps
passing word.Evict = Keeps
passing word.Delete = Keeps
passing word.Free = Keeps
passing word.Size = Keeps
passing word.Tail = Keeps
passing word.Clear = Keeps
passing word.Drop = Keeps

abbrev pub acquires : Passing → Bool
acquires Acquires = true
acquires Leaves = false
acquires Keeps = false

abbrev pub leaves : Passing → Bool
leaves Acquires = false
leaves Leaves = true
leaves Keeps = false

-- the next step of a call that stands there may be blocked; that of any other can't
abbrev pub may_wait : Phase → Bool
may_wait at = acquires (passing at)

-- its next step may leave a slot or a lock; that of any other keeps what it holds
abbrev pub may_leave : Phase → Bool
may_leave at = leaves (passing at)

-- its next step may take or leave a slot or a lock; that of any other leaves what it holds
abbrev pub may_pass : Phase → Bool
may_pass at = may_wait at || may_leave at

-- a task without a call in flight begins one, which holds nothing
abbrev pub task_may_pass : Option Phase → Bool
task_may_pass None = false
task_may_pass (Some at) = may_pass at

abbrev pub task_may_leave : Option Phase → Bool
task_may_leave None = false
task_may_leave (Some at) = may_leave at

-- whether a task that waits may go on behind the event: a step that may leave a slot or a lock, or a kill
abbrev pub may_release : CoreState → Event → Bool
may_release s (Begin task op) = false
may_release s (Step task grant) = task_may_leave (phase_of s task)
may_release s (Kill task) = true
may_release s (Resize frames) = false

-- each task but the event's own that waited for a holder waits for it
abbrev pub WaitOn : Event → CoreState → CoreState → Type 0
WaitOn event old new = (task holder : ℕ) → ¬ IsOf task event → WaitsFor old task (Some holder) → WaitsFor new task (Some holder)
