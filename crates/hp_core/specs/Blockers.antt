-- Whom a call's next step is blocked by, phase by phase.
use Rattle.std.specs.Prelude.{ℕ, ◌+◌, ◌==◌, ◌||◌, Bool, Option, Some, None, length, nat_le, nat_lt, if◌then◌else◌, slice_index_or}
use Rattle.hp_base.specs.declared.limits.TheConstants.{LIMIT}
use Rattle.hp_slots.specs.Holders.{slot_number}
use Rattle.hp_machine.specs.State.{is_dead, is_killed}
use Rattle.hp_machine.specs.declared.call.Call.{Call}
use Rattle.hp_machine.specs.declared.call.Call.TheVariants as call
use Rattle.hp_machine.specs.declared.touch.TouchPhase.{TouchPhase}
use Rattle.hp_machine.specs.declared.touch.TouchPhase.TheVariants as touch
use Rattle.hp_machine.specs.declared.map.MapPhase.{MapPhase}
use Rattle.hp_machine.specs.declared.map.MapPhase.TheVariants as map
use Rattle.hp_machine.specs.declared.alloc.AllocPhase.{AllocPhase}
use Rattle.hp_machine.specs.declared.alloc.AllocPhase.TheVariants as alloc
use Rattle.hp_machine.specs.declared.punch.PunchPhase.{PunchPhase}
use Rattle.hp_machine.specs.declared.punch.PunchPhase.TheVariants as punch
use Rattle.hp_machine.specs.declared.truncate.TruncatePhase.{TruncatePhase}
use Rattle.hp_machine.specs.declared.truncate.TruncatePhase.TheVariants as truncate
use Rattle.hp_parts.specs.State.{PartsState}
use Rattle.hp_core.specs.declared.task_state.TaskState.{TaskState}

-- the range is empty, or ends above the limit of a file
abbrev pub is_bad : (from len : ℕ) → Bool
is_bad from len = (len == 0) || nat_lt LIMIT (from + len)

-- at the start of a call on a file the holder of the file's lock, unless the call ends there
abbrev pub lock_blocker : PartsState → (killed : Bool) → (file : ℕ) → (out_of_range : Bool) → Option ℕ
lock_blocker p killed f out_of_range = if nat_le (length p.files) f || out_of_range || killed then None else slice_index_or p.locks f None

-- where a slot is wanted its holder
abbrev pub slot_blocker : PartsState → (file index : ℕ) → Option ℕ
slot_blocker p f i = slice_index_or p.slots (slot_number (length p.slots) f i) None

abbrev pub touch_blocker : PartsState → (killed : Bool) → TouchPhase → Option ℕ
touch_blocker p killed (touch.Want s) = if killed then None else slot_blocker p s.touch.file s.touch.index
touch_blocker p killed other = None

abbrev pub map_blocker : PartsState → (killed : Bool) → MapPhase → Option ℕ
map_blocker p killed (map.Start s) = lock_blocker p killed s.map.file (is_bad s.map.from s.map.len)
map_blocker p killed other = None

abbrev pub alloc_blocker : PartsState → (killed : Bool) → AllocPhase → Option ℕ
alloc_blocker p killed (alloc.Start s) = lock_blocker p killed s.allocation.file (is_bad s.allocation.from s.allocation.len)
alloc_blocker p killed (alloc.Want s) = if killed then None else slot_blocker p s.allocation.file s.index
alloc_blocker p killed other = None

abbrev pub punch_blocker : PartsState → (killed : Bool) → PunchPhase → Option ℕ
punch_blocker p killed (punch.Start s) = lock_blocker p killed s.hole.file (is_bad s.hole.from s.hole.len)
punch_blocker p killed (punch.Want s) = slot_blocker p s.hole.file s.index
punch_blocker p killed other = None

abbrev pub truncate_blocker : PartsState → (killed : Bool) → TruncatePhase → Option ℕ
truncate_blocker p killed (truncate.Start s) = lock_blocker p killed s.truncation.file (nat_lt LIMIT s.truncation.new)
truncate_blocker p killed (truncate.Want s) = slot_blocker p s.truncation.file s.index
truncate_blocker p killed other = None

-- unmaps and exits are never blocked
abbrev pub call_blocker : PartsState → (killed : Bool) → Call → Option ℕ
call_blocker p killed (call.Touch phase) = touch_blocker p killed phase
call_blocker p killed (call.Map phase) = map_blocker p killed phase
call_blocker p killed (call.Alloc phase) = alloc_blocker p killed phase
call_blocker p killed (call.Punch phase) = punch_blocker p killed phase
call_blocker p killed (call.Truncate phase) = truncate_blocker p killed phase
call_blocker p killed (call.Unmap phase) = None
call_blocker p killed (call.Exit phase) = None

abbrev pub task_state_call_blocker : PartsState → (killed : Bool) → Option Call → Option ℕ
task_state_call_blocker p killed None = None
task_state_call_blocker p killed (Some inflight) = call_blocker p killed inflight

abbrev pub task_blocker : PartsState → TaskState → Option ℕ
task_blocker p task_state = if is_dead task_state.life then None else task_state_call_blocker p (is_killed task_state.life) task_state.call
