-- Which rows an explanation has, and in which columns.
use Rattle.std.specs.Prelude.{ℕ, ◌+◌, ◌-◌, ◌/◌, ◌%◌, ◌^◌, ◌==◌, ◌&&◌, ◌||◌, nat_le, Bool, false, List, take, Option, None, Some}
use Rattle.std.specs.Prelude.{if◌then◌else◌}
use Rattle.hp_base.specs.declared.event.Event.{Event}
use Rattle.hp_base.specs.declared.event.Event.TheVariants.{Begin, Step, Kill, Resize}
use Rattle.hp_text.specs.Columns.{column_of}
use Rattle.hp_explain.specs.declared.view.View.{View}

-- all of them, as they are laid out where nothing else is asked for
abbrev pub whole_view : View
whole_view = record { first = 2; last = 2 ^ 32 - 1; tasks = 0; linux = false; compact = false }

-- whether the set, of which bit T - 1 stands for task T, has that task
abbrev pub has_task : (tasks task : ℕ) → Bool
has_task tasks task = (nat_le 1 task && nat_le task 64) && ((tasks / 2 ^ (task - 1)) % 2 == 1)

-- the task of an event, if it is of one
abbrev pub task_of : Event → Option ℕ
task_of (Begin task op) = Some task
task_of (Step task granted) = Some task
task_of (Kill task) = Some task
task_of (Resize frames) = None

-- whether the events of that task, or of none, have rows
abbrev pub is_asked : (tasks : ℕ) → Option ℕ → Bool
is_asked tasks (Some task) = (tasks == 0) || has_task tasks task
is_asked tasks None = tasks == 0

-- whether the event of that line has a row
abbrev pub is_shown : View → (line : ℕ) → Event → Bool
is_shown v line event = nat_le v.first line && is_asked v.tasks (task_of event)

-- the events up to the last line that is asked for; line 1 is the header
abbrev pub events_until : View → List Event → List Event
events_until v events = take (v.last - 1) events

-- the column of an event, how many tasks have a column of their own, and how many columns there are: one for all, or one for each task
-- and one for what is of none
abbrev pub column_in : (compact : Bool) → (tasks : ℕ) → Event → ℕ
column_in compact tasks event = if compact then 0 else column_of tasks event

abbrev pub tasks_apart : (compact : Bool) → (tasks : ℕ) → ℕ
tasks_apart compact tasks = if compact then 0 else tasks

abbrev pub column_count : (compact : Bool) → (tasks : ℕ) → ℕ
column_count compact tasks = tasks_apart compact tasks + 1
