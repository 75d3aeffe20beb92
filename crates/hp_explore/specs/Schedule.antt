-- A run of a script, turn by turn: the words of a generator pick the tasks, the denials and the kills.
use Rattle.std.specs.Prelude.{◌≡◌, ◌==◌, ◌+◌, ◌-◌, ◌%◌, ◌&&◌, ◌⊎◌, ◌<◌, ℕ, zero, suc}
use Rattle.std.specs.Prelude.{Bool, true, false, List, [], ◌∷◌, ◌++◌}
use Rattle.std.specs.Prelude.{Option, None, Some, IsTrue, length, filter, map, take, replicate, slice_get, slice_index}
use Rattle.std.specs.Prelude.{slice_index_or, slice_set}
use Rattle.std.specs.Prelude.{nat_lt, nat_le, is_some, if◌then◌else◌, MatchBool}
use Rattle.std.specs.List.{range_with_len, list_all}
use Rattle.rand_core.specs.Pcg32Seed.{pcg32_seed}
use Rattle.rand_pcg.specs.Lcg.{Lcg}
use Rattle.rand_pcg.specs.Pcg.{pcg32, pcg32_of_seed}
use Rattle.hp_base.specs.declared.event.Op.{Op}
use Rattle.hp_base.specs.declared.event.Event.{Event}
use Rattle.hp_base.specs.declared.event.Event.TheVariants.{Begin, Step, Kill}
use Rattle.hp_machine.specs.State.{is_alive}
use Rattle.hp_machine.specs.declared.outcome.Outcome.{Outcome}
use Rattle.hp_core.specs.State.{CoreState}
use Rattle.hp_core.specs.Readers.{phase_of, life_of}
use Rattle.hp_core.specs.Runs.{Row, IsOpening}
use Rattle.hp_core.specs.Waiting.{WaitsFor}
use Rattle.hp_text.specs.Scripts.{calls_of}
use Rattle.hp_text.specs.declared.script.Script.{Script}
use Rattle.hp_text.specs.declared.script.Wait.{Wait}
use Rattle.hp_text.specs.Needs.{needs_of}
use Rattle.hp_text.specs.declared.needs.Need.{Need}

-- the calls of each task, from task 1; lines of a task that isn't there are no calls
abbrev pub queues_of : List (ℕ × Op) → (tasks : ℕ) → List (List Op)
queues_of lines tasks = map (calls_of lines) (range_with_len 1 tasks)

-- what every run of an exploration goes by: the calls of each task, what each waits for, and of a thousand steps how many are
-- denied, of a thousand turns how many are kills
pub record Plan : Type 0 where
  pub queues : List (List Op)
  pub needs : List (List (List Need))
  pub deny : ℕ
  pub kill : ℕ

abbrev pub plan_of : Script → (deny kill : ℕ) → Plan
plan_of script deny kill = record {
  queues = queues_of script.calls.items script.config.tasks;
  needs = needs_of script.calls.items script.waits.items script.config.tasks;
  deny = deny;
  kill = kill;
}

-- the plan is that of some lines, for so many tasks
pub record IsPlan (plan : Plan) (tasks : ℕ) : Type 0 where
  pub lines : List (ℕ × Op)
  pub waits : List Wait
  pub queues : plan.queues ≡ queues_of lines tasks
  pub needs : plan.needs ≡ needs_of lines waits tasks

-- a run between two turns: the core, how many of its calls each task has begun, the generator, and the turns made
pub record World : Type 0 where
  pub core : CoreState
  pub made : List ℕ
  pub rng : Lcg
  pub turns : ℕ

-- the generator that is seeded by a number
abbrev pub seeded : ℕ → Lcg
seeded seed = pcg32_of_seed (pcg32_seed 16 seed)

-- a run of the script begins with a new core, and with the generator that is seeded so
pub record IsStart (script : Script) (seed : ℕ) (w : World) : Type 0 where
  pub core : IsOpening script.config w.core
  pub made : w.made ≡ replicate script.config.tasks 0
  pub rng : w.rng ≡ seeded seed
  pub turns : w.turns ≡ 0

-- whether the task has a call in flight
abbrev pub in_call : World → (task : ℕ) → Bool
in_call w t = is_some (phase_of w.core t)

-- the call that the task makes next, if it has one left
abbrev pub next_call : Plan → (made : List ℕ) → (task : ℕ) → Option Op
next_call plan made t = slice_get (slice_index_or plan.queues (t - 1) []) (slice_index made (t - 1))

-- how many of its calls the task has ended: all that it has begun, but for one that is in flight
abbrev pub ended : World → (task : ℕ) → ℕ
ended w t = slice_index w.made (t - 1) - (if in_call w t then 1 else 0)

-- the task has ended so many calls
abbrev pub is_over : World → Need → Bool
is_over w need = nat_le need.calls (ended w (need.place + 1))

-- what the call waits for that the task makes next
abbrev pub next_needs : Plan → (made : List ℕ) → (task : ℕ) → List Need
next_needs plan made t = slice_index_or (slice_index_or plan.needs (t - 1) []) (slice_index made (t - 1)) []

-- the task has a call left, and all that it waits for is over
abbrev pub may_begin : Plan → World → (task : ℕ) → Bool
may_begin plan w t = is_some (next_call plan w.made t) && list_all (is_over w) (next_needs plan w.made t)

-- the task may take a turn: it has a call in flight whose next step isn't blocked, or none in flight and may begin one
abbrev pub CanTurn : Plan → World → (task : ℕ) → Type 0
CanTurn plan w t = MatchBool (in_call w t) (WaitsFor w.core t None) (IsTrue (may_begin plan w t))

-- of the first n tasks these may take a turn, in ascending order
unfoldable pub AreRunnableOf : Plan → World → (n : ℕ) → List ℕ → Type 0
AreRunnableOf plan w zero tasks = tasks ≡ []
AreRunnableOf plan w (suc n) tasks =
    (front : List ℕ) × AreRunnableOf plan w n front
    × ((CanTurn plan w (suc n) × (tasks ≡ front ++ suc n ∷ [])) ⊎ ((¬ CanTurn plan w (suc n)) × (tasks ≡ front)))

-- of all tasks
abbrev pub AreRunnable : Plan → World → List ℕ → Type 0
AreRunnable plan w tasks = AreRunnableOf plan w (length w.made) tasks

-- the next word of the generator, and the generator behind it
abbrev pub word : Lcg → ℕ
word rng = (pcg32 rng).0

abbrev pub drawn : Lcg → Lcg
drawn rng = (pcg32 rng).1

-- the task that the next word picks
abbrev pub picked : List ℕ → Lcg → ℕ
picked tasks rng = slice_index tasks (word rng % length tasks)

-- what a turn does, and what it leaves of the calls and of the generator
pub record Choice : Type 0 where
  pub event : Event
  pub made : List ℕ
  pub rng : Lcg

-- the task's next call is begun
abbrev pub begin_choice : Op → (made : List ℕ) → (task : ℕ) → Lcg → Choice
begin_choice op made t rng = record { event = Begin t op; made = slice_set made (t - 1) (slice_index made (t - 1) + 1); rng = rng }

-- its call makes a step, which is granted where the next word says so
abbrev pub step_choice : (deny : ℕ) → (made : List ℕ) → (task : ℕ) → Lcg → Choice
step_choice deny made t rng = record { event = Step t (nat_le deny (word rng % 1000)); made = made; rng = drawn rng }

-- the task is killed
abbrev pub kill_choice : (made : List ℕ) → (task : ℕ) → Lcg → Choice
kill_choice made t rng = record { event = Kill t; made = made; rng = rng }

-- a task without a call in flight begins the next that it has; one with a call in flight makes a step
abbrev pub call_choice : (busy : Bool) → Option Op → (deny : ℕ) → (made : List ℕ) → (task : ℕ) → Lcg → Choice
call_choice false (Some op) deny made t rng = begin_choice op made t rng
call_choice false None deny made t rng = step_choice deny made t rng
call_choice true next deny made t rng = step_choice deny made t rng

-- where there may be kills, the next word tells whether the task is killed, if it is alive
abbrev pub task_choice : Plan → (busy alive : Bool) → (made : List ℕ) → (task : ℕ) → Lcg → Choice
task_choice plan busy alive made t rng =
    if plan.kill == 0 then call_choice busy (next_call plan made t) plan.deny made t rng
    else (if nat_lt (word rng % 1000) plan.kill && alive then kill_choice made t (drawn rng)
    else call_choice busy (next_call plan made t) plan.deny made t (drawn rng))

-- what a turn of the task does
abbrev pub choice_at : Plan → World → (task : ℕ) → Lcg → Choice
choice_at plan w t rng = task_choice plan (in_call w t) (is_alive (life_of w.core t)) w.made t rng

-- one word picks a task, and more what becomes of it
abbrev pub choice_of : Plan → World → (tasks : List ℕ) → Choice
choice_of plan w tasks = choice_at plan w (picked tasks w.rng) (drawn w.rng)

-- one turn of a task that can take one, by that event
pub record Turn (plan : Plan) (w : World) (event : Event) (v : World) : Type 0 where
  pub tasks : List ℕ
  pub runnable : AreRunnable plan w tasks
  pub some : 0 < length tasks
  pub chosen : event ≡ (choice_of plan w tasks).event
  pub outcome : Outcome
  pub row : Row w.core event outcome v.core
  pub made : v.made ≡ (choice_of plan w tasks).made
  pub rng : v.rng ≡ (choice_of plan w tasks).rng
  pub turns : v.turns ≡ w.turns + 1
