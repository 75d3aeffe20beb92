-- How many steps are left to a call at most.
use Rattle.std.specs.Prelude.{ℕ, ◌+◌, ◌*◌, ◌-◌, Option, Some, None, length}
use Rattle.hp_base.specs.Numbers.{total}
use Rattle.hp_machine.specs.State.{Geometry, State}
use Rattle.hp_laws.specs.Bounds.{times}
use Rattle.hp_machine.specs.declared.outcome.Outcome.{Outcome}
use Rattle.hp_machine.specs.declared.outcome.Outcome.TheVariants as outcome
use Rattle.hp_machine.specs.declared.touch.TouchPhase.TheVariants as touch
use Rattle.hp_machine.specs.declared.map.MapPhase.TheVariants as map
use Rattle.hp_machine.specs.declared.alloc.AllocPhase.TheVariants as alloc
use Rattle.hp_machine.specs.declared.punch.PunchPhase.TheVariants as punch
use Rattle.hp_machine.specs.declared.truncate.TruncatePhase.TheVariants as truncate
use Rattle.hp_machine.specs.declared.unmap.UnmapPhase.TheVariants as unmap
use Rattle.hp_machine.specs.declared.exit.ExitPhase.TheVariants as exit
use Rattle.hp_machine.specs.declared.call.Call.{Call}
use Rattle.hp_machine.specs.declared.call.Call.TheVariants as call

-- an allocation that carries an answer goes no further
abbrev pub unslot_left : {A : Type 0} → Option A → ℕ → ℕ
unslot_left None more = more
unslot_left (Some a) more = 2

-- at most so many steps move or end the call from here on; `m` is the number of its task's mappings, `top` the end of
-- what a truncation goes through
abbrev pub steps_left : Geometry → (mappings top : ℕ) → Option Call → ℕ
steps_left g m top None = 0
steps_left g m top (Some (call.Touch (touch.Look p))) = 10
steps_left g m top (Some (call.Touch (touch.Want p))) = 9
steps_left g m top (Some (call.Touch (touch.Locked p))) = 8
steps_left g m top (Some (call.Touch (touch.Missing p))) = 7
steps_left g m top (Some (call.Touch (touch.Changed p))) = 6
steps_left g m top (Some (call.Touch (touch.Taken p))) = 5
steps_left g m top (Some (call.Touch (touch.Settle p))) = 4
steps_left g m top (Some (call.Touch (touch.Committed p))) = 3
steps_left g m top (Some (call.Touch (touch.Found p))) = 2
steps_left g m top (Some (call.Touch (touch.Abort p))) = 2
steps_left g m top (Some (call.Touch (touch.Restore p))) = 2
steps_left g m top (Some (call.Touch (touch.Leave p))) = 1
steps_left g m top (Some (call.Map (map.Start p))) = 8
steps_left g m top (Some (call.Map (map.Room p))) = 7
steps_left g m top (Some (call.Map (map.Missing p))) = 6
steps_left g m top (Some (call.Map (map.Changed p))) = 5
steps_left g m top (Some (call.Map (map.Accounted p))) = 4
steps_left g m top (Some (call.Map (map.Settle p))) = 3
steps_left g m top (Some (call.Map (map.Enter p))) = 2
steps_left g m top (Some (call.Map (map.Abort p))) = 2
steps_left g m top (Some (call.Map (map.Leave p))) = 1
steps_left g m top (Some (call.Alloc (alloc.Start p))) = times p.allocation.len 9 + 3
steps_left g m top (Some (call.Alloc (alloc.Head p))) = times (p.allocation.from + p.allocation.len - (p.index + 1)) 9 + 11
steps_left g m top (Some (call.Alloc (alloc.Want p))) = times (p.allocation.from + p.allocation.len - (p.index + 1)) 9 + 10
steps_left g m top (Some (call.Alloc (alloc.Locked p))) = times (p.allocation.from + p.allocation.len - (p.index + 1)) 9 + 9
steps_left g m top (Some (call.Alloc (alloc.Missing p))) = times (p.allocation.from + p.allocation.len - (p.index + 1)) 9 + 8
steps_left g m top (Some (call.Alloc (alloc.Changed p))) = times (p.allocation.from + p.allocation.len - (p.index + 1)) 9 + 7
steps_left g m top (Some (call.Alloc (alloc.Taken p))) = times (p.allocation.from + p.allocation.len - (p.index + 1)) 9 + 6
steps_left g m top (Some (call.Alloc (alloc.Settle p))) = times (p.allocation.from + p.allocation.len - (p.index + 1)) 9 + 5
steps_left g m top (Some (call.Alloc (alloc.Committed p))) = times (p.allocation.from + p.allocation.len - (p.index + 1)) 9 + 4
steps_left g m top (Some (call.Alloc (alloc.Abort p))) = 3
steps_left g m top (Some (call.Alloc (alloc.Restore p))) = 3
steps_left g m top (Some (call.Alloc (alloc.Unslot p))) =
    unslot_left p.answer (times (p.allocation.from + p.allocation.len - (p.index + 1)) 9 + 3)
steps_left g m top (Some (call.Alloc (alloc.Extend p))) = 2
steps_left g m top (Some (call.Alloc (alloc.Leave p))) = 1
steps_left g m top (Some (call.Punch (punch.Start p))) = times p.hole.len (6 + g.tasks) + 2
steps_left g m top (Some (call.Punch (punch.Want p))) = times (p.hole.from + p.hole.len - (p.index + 1)) (6 + g.tasks) + 7 + g.tasks
steps_left g m top (Some (call.Punch (punch.Locked p))) = times (p.hole.from + p.hole.len - (p.index + 1)) (6 + g.tasks) + 6 + g.tasks
steps_left g m top (Some (call.Punch (punch.Unmap p))) =
    times (p.hole.from + p.hole.len - (p.index + 1)) (6 + g.tasks) + 6 + (g.tasks - p.task)
steps_left g m top (Some (call.Punch (punch.Evict p))) = times (p.hole.from + p.hole.len - (p.index + 1)) (6 + g.tasks) + 5
steps_left g m top (Some (call.Punch (punch.Delete p))) = times (p.hole.from + p.hole.len - (p.index + 1)) (6 + g.tasks) + 4
steps_left g m top (Some (call.Punch (punch.Free p))) = times (p.hole.from + p.hole.len - (p.index + 1)) (6 + g.tasks) + 3
steps_left g m top (Some (call.Punch (punch.Unslot p))) = times (p.hole.from + p.hole.len - (p.index + 1)) (6 + g.tasks) + 2
steps_left g m top (Some (call.Punch (punch.Leave p))) = 1
steps_left g m top (Some (call.Truncate (truncate.Start p))) = times (top - p.truncation.new) (5 + g.tasks) + 5
steps_left g m top (Some (call.Truncate (truncate.Size p))) = times (top - p.truncation.new) (5 + g.tasks) + 4
steps_left g m top (Some (call.Truncate (truncate.Want p))) = times (p.index - p.truncation.new) (5 + g.tasks) + 8 + g.tasks
steps_left g m top (Some (call.Truncate (truncate.Locked p))) = times (p.index - p.truncation.new) (5 + g.tasks) + 7 + g.tasks
steps_left g m top (Some (call.Truncate (truncate.Unmap p))) = times (p.index - p.truncation.new) (5 + g.tasks) + 7 + (g.tasks - p.task)
steps_left g m top (Some (call.Truncate (truncate.Evict p))) = times (p.index - p.truncation.new) (5 + g.tasks) + 6
steps_left g m top (Some (call.Truncate (truncate.Free p))) = times (p.index - p.truncation.new) (5 + g.tasks) + 5
steps_left g m top (Some (call.Truncate (truncate.Unslot p))) = times (p.index - p.truncation.new) (5 + g.tasks) + 4
steps_left g m top (Some (call.Truncate (truncate.Tail p))) = 3
steps_left g m top (Some (call.Truncate (truncate.Settle p))) = 2
steps_left g m top (Some (call.Truncate (truncate.Leave p))) = 1
steps_left g m top (Some (call.Unmap (unmap.Start p))) = 3
steps_left g m top (Some (call.Unmap (unmap.Clear p))) = 2
steps_left g m top (Some (call.Unmap (unmap.Drop p))) = 1
steps_left g m top (Some (call.Exit exit.Start)) = 2 * m + 2
steps_left g m top (Some (call.Exit (exit.Clear p))) = 2 * m + 1
steps_left g m top (Some (call.Exit (exit.Drop p))) = 2 * m
steps_left g m top (Some (call.Exit exit.Leave)) = 1

-- to the task's call; the top of a truncation that hasn't set the size is at most the limit
unfoldable pub left_to : State → (task : ℕ) → ℕ
left_to s t = steps_left s.geometry (length (s.mappings t)) s.geometry.limit (s.calls t)

-- to all calls in flight
unfoldable pub left_to_all : State → ℕ
left_to_all s = total (s.geometry.tasks + 1) (left_to s)

-- 1 for an outcome that moved or ended a call
abbrev pub goes_on : Outcome → ℕ
goes_on (outcome.Moved p) = 1
goes_on (outcome.Ended a) = 1
goes_on outcome.Begun = 0
goes_on (outcome.Blocked u) = 0
goes_on outcome.Marked = 0
goes_on (outcome.Resized n) = 0
goes_on (outcome.Refused why) = 0
