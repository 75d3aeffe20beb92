-- Columns: one for each task of a pool, from 1 on, and column 0 for what is of none.
use Rattle.std.specs.Prelude.{ℕ, ◌&&◌, nat_le, if◌then◌else◌}
use Rattle.hp_base.specs.declared.event.Event.{Event}
use Rattle.hp_base.specs.declared.event.Event.TheVariants.{Begin, Step, Kill, Resize}

-- the column of a task: its number, or 0 where the pool has no such task
abbrev pub column_of_task : (tasks task : ℕ) → ℕ
column_of_task tasks task = if nat_le 1 task && nat_le task tasks then task else 0

-- the column of an event: that of its task; a resize is of no task
abbrev pub column_of : (tasks : ℕ) → Event → ℕ
column_of tasks (Begin task op) = column_of_task tasks task
column_of tasks (Step task granted) = column_of_task tasks task
column_of tasks (Kill task) = column_of_task tasks task
column_of tasks (Resize frames) = 0
