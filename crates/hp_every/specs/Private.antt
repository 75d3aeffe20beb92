-- Private steps. They look at what their own task alone changes, and change nothing but where its call stands: each step of another task
-- may as well be made before as behind them.
use Rattle.std.specs.Prelude.{◌≡◌, ℕ, List, None, IsSomeAnd}
use Rattle.hp_machine.specs.State.{Pool}
use Rattle.hp_machine.specs.declared.call.Call.{Call}
use Rattle.hp_machine.specs.declared.call.Call.TheVariants as call
use Rattle.hp_machine.specs.declared.touch.TouchPhase.{TouchPhase}
use Rattle.hp_machine.specs.declared.touch.TouchPhase.TheVariants as touch
use Rattle.hp_machine.specs.declared.alloc.AllocPhase.{AllocPhase}
use Rattle.hp_machine.specs.declared.alloc.AllocPhase.TheVariants as alloc
use Rattle.hp_machine.specs.declared.unmap.UnmapPhase.{UnmapPhase}
use Rattle.hp_machine.specs.declared.unmap.UnmapPhase.TheVariants as unmap
use Rattle.hp_machine.specs.declared.exit.ExitPhase.{ExitPhase}
use Rattle.hp_machine.specs.declared.exit.ExitPhase.TheVariants as exit
use Rattle.hp_core.specs.State.{task_state_at}
use Rattle.hp_core.specs.declared.task_state.TaskState.{TaskState}
use Rattle.hp_parts.specs.State.{PartsState}
use Rattle.hp_parts.specs.View.{pool_of}

-- looks up a page of which the task has no translation: other tasks take its translations away, and give it none
abbrev pub touch_is_private : Pool → (task : ℕ) → TouchPhase → Type 0
touch_is_private s t (touch.Look p) = s.entries t p.vpn ≡ None
touch_is_private s t (touch.Want p) = ⊥
touch_is_private s t (touch.Locked p) = ⊥
touch_is_private s t (touch.Missing p) = ⊥
touch_is_private s t (touch.Changed p) = ⊥
touch_is_private s t (touch.Abort p) = ⊥
touch_is_private s t (touch.Taken p) = ⊥
touch_is_private s t (touch.Settle p) = ⊥
touch_is_private s t (touch.Committed p) = ⊥
touch_is_private s t (touch.Restore p) = ⊥
touch_is_private s t (touch.Found p) = ⊥
touch_is_private s t (touch.Leave p) = ⊥

-- goes on to its next index, and looks whether its task is killed
abbrev pub alloc_is_private : AllocPhase → Type 0
alloc_is_private (alloc.Start p) = ⊥
alloc_is_private (alloc.Head p) = Unit {0}
alloc_is_private (alloc.Want p) = ⊥
alloc_is_private (alloc.Locked p) = ⊥
alloc_is_private (alloc.Missing p) = ⊥
alloc_is_private (alloc.Changed p) = ⊥
alloc_is_private (alloc.Abort p) = ⊥
alloc_is_private (alloc.Taken p) = ⊥
alloc_is_private (alloc.Settle p) = ⊥
alloc_is_private (alloc.Committed p) = ⊥
alloc_is_private (alloc.Restore p) = ⊥
alloc_is_private (alloc.Unslot p) = ⊥
alloc_is_private (alloc.Extend p) = ⊥
alloc_is_private (alloc.Leave p) = ⊥

-- looks for the mapping among those of its task
abbrev pub unmap_is_private : UnmapPhase → Type 0
unmap_is_private (unmap.Start p) = Unit {0}
unmap_is_private (unmap.Clear p) = ⊥
unmap_is_private (unmap.Drop p) = ⊥

-- looks for the first mapping of its task
abbrev pub exit_is_private : ExitPhase → Type 0
exit_is_private exit.Start = Unit {0}
exit_is_private (exit.Clear p) = ⊥
exit_is_private (exit.Drop p) = ⊥
exit_is_private exit.Leave = ⊥

-- a step of the call is private; no step of a map, a punch or a truncation is
abbrev pub IsPrivate : Pool → (task : ℕ) → Call → Type 0
IsPrivate s t (call.Touch phase) = touch_is_private s t phase
IsPrivate s t (call.Map phase) = ⊥
IsPrivate s t (call.Alloc phase) = alloc_is_private phase
IsPrivate s t (call.Punch phase) = ⊥
IsPrivate s t (call.Truncate phase) = ⊥
IsPrivate s t (call.Unmap phase) = unmap_is_private phase
IsPrivate s t (call.Exit phase) = exit_is_private phase

-- the task has a call in flight, whose next step is private
abbrev pub StepIsPrivate : PartsState → List TaskState → (task : ℕ) → Type 0
StepIsPrivate p task_states t = IsSomeAnd (task_state_at task_states t).call (λ inflight. IsPrivate (pool_of p) t inflight)
