-- What the calls of a script wait for.
use Rattle.std.specs.Prelude.{◌==◌, ◌+◌, ◌-◌, ◌&&◌, ℕ, Bool, List, [], ◌∷◌, length, filter, map, take, nat_le, if◌then◌else◌}
use Rattle.std.specs.List.{range_with_len}
use Rattle.hp_base.specs.declared.event.Op.{Op}
use Rattle.hp_text.specs.Scripts.{calls_of}
use Rattle.hp_text.specs.declared.needs.Need.{Need}
use Rattle.hp_text.specs.declared.script.Wait.{Wait}

-- the places of the task's calls among these lines, of which the first stands at this place
abbrev pub places_from : (place : ℕ) → List (ℕ × Op) → (task : ℕ) → List ℕ
places_from place [] t = []
places_from place (line ∷ lines) t =
    if line.0 == t then place ∷ places_from (place + 1) lines t else places_from (place + 1) lines t

-- the wait is of the call at this place, and for one of so many tasks
abbrev pub is_wait_of : (place tasks : ℕ) → Wait → Bool
is_wait_of place tasks wait = wait.call == place && (nat_le 1 wait.task && nat_le wait.task tasks)

-- what it asks for: as many ended calls of the task as stand on earlier lines
abbrev pub need_of : List (ℕ × Op) → (place : ℕ) → Wait → Need
need_of lines place wait = record { place = wait.task - 1; calls = length (calls_of (take place lines) wait.task) }

-- what the call at this place waits for
abbrev pub needs_at : List (ℕ × Op) → List Wait → (tasks place : ℕ) → List Need
needs_at lines waits tasks place = map (need_of lines place) (filter (is_wait_of place tasks) waits)

-- what each call of the task waits for
abbrev pub task_needs : List (ℕ × Op) → List Wait → (tasks task : ℕ) → List (List Need)
task_needs lines waits tasks t = map (needs_at lines waits tasks) (places_from 0 lines t)

-- the same of each task, from task 1; where no call waits, nothing
abbrev pub needs_of : List (ℕ × Op) → List Wait → (tasks : ℕ) → List (List (List Need))
needs_of lines [] tasks = []
needs_of lines (wait ∷ waits) tasks = map (task_needs lines (wait ∷ waits) tasks) (range_with_len 1 tasks)
