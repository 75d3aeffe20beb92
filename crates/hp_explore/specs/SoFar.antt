-- A run of a script that is made turn by turn, by whoever asks for the turns.
use Rattle.std.specs.Prelude.{◌≡◌, ℕ, ◌-◌, ◌≤◌, ◌⊎◌, List, [], ◌∷◌, ◌++◌, length, All}
use Rattle.hp_base.specs.declared.event.Event.{Event}
use Rattle.hp_explore.specs.declared.line.RunLine.{RunLine}
use Rattle.hp_explore.specs.Explored.{IsExplored, IsRun, turn_limit}
use Rattle.hp_explore.specs.Schedule.{Plan, World, AreRunnable, IsPlan, plan_of}
use Rattle.hp_text.specs.declared.script.Script.{Script}

-- a run between two turns, and the tasks that may take the next
pub record RunState : Type 0 where
  pub world : World
  pub tasks : List ℕ

-- the tasks are those that may take a turn, and the plan is one for as many tasks as there are
pub record IsBetweenTurns (plan : Plan) (r : RunState) : Type 0 where
  pub runnable : AreRunnable plan r.world r.tasks
  pub in_range : All (λ t. (1 ≤ t) × (t ≤ length r.world.made)) r.tasks
  pub planned : IsPlan plan (length r.world.made)

-- Run number `run` of the script's runs that are seeded from `seed` on has made these events: however it goes on from here, with
-- what follows behind them that run is explored.
unfoldable pub IsSoFar : Script → (seed deny kill run : ℕ) → List Event → RunState → Type 0
IsSoFar script seed deny kill run events r =
    (rest : List Event) (line : RunLine) → IsRun (plan_of script deny kill) run (turn_limit - r.world.turns) r.world rest line
    → IsExplored script seed deny kill run (events ++ rest) line

-- the event comes next, in whichever run made so many events so far
abbrev pub GoesOn : Plan → RunState → Event → RunState → Type 0
GoesOn plan old event new =
    (script : Script) (seed deny kill run : ℕ) (events : List Event) → plan ≡ plan_of script deny kill
    → IsSoFar script seed deny kill run events old → IsSoFar script seed deny kill run (events ++ event ∷ []) new

-- the run is over: what it made so far is all that it makes
abbrev pub Ends : Plan → RunState → Type 0
Ends plan r =
    (script : Script) (seed deny kill run : ℕ) (events : List Event) → plan ≡ plan_of script deny kill
    → IsSoFar script seed deny kill run events r → (line : RunLine) × IsExplored script seed deny kill run events line

-- no task may take a turn, or no turn is left
abbrev pub IsOver : Plan → RunState → Type 0
IsOver plan r = AreRunnable plan r.world [] ⊎ (1000000 ≤ r.world.turns)

-- whichever run of that number made so many events so far is explored with them, and has this line
abbrev pub EndsAs : Plan → RunState → (run : ℕ) → RunLine → Type 0
EndsAs plan r run line =
    (script : Script) (seed deny kill : ℕ) (events : List Event) → plan ≡ plan_of script deny kill
    → IsSoFar script seed deny kill run events r → IsExplored script seed deny kill run events line
