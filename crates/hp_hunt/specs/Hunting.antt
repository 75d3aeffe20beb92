-- Runs of a script that meet conditions, and runs that don't.
use Rattle.std.specs.Prelude.{◌≡◌, ◌<◌, ◌≤◌, ℕ, List, length}
use Rattle.hp_base.specs.Text.{sizes}
use Rattle.hp_base.specs.declared.event.Event.{Event}
use Rattle.hp_explore.specs.Explored.{IsExplored}
use Rattle.hp_explore.specs.declared.line.RunLine.{RunLine}
use Rattle.hp_text.specs.declared.script.Script.{Script}
use Rattle.hp_hunt.specs.Conditions.{SomeRunMeets, SomeRunMisses}
use Rattle.hp_hunt.specs.declared.condition.Condition.{Condition}
use Rattle.hp_hunt.specs.declared.finding.Found.{Found}
use Rattle.hp_hunt.specs.declared.finding.Hunt.{Hunt}

-- that run of the script has these events, and meets all conditions
pub record RunMeets (script : Script) (seed deny kill : ℕ) (conditions : List Condition) (run : ℕ) (events : List Event) : Type 0 where
  pub line : RunLine
  pub explored : IsExplored script seed deny kill run events line
  pub meets : SomeRunMeets script.config events conditions

-- that run of the script doesn't meet them all
pub record RunMisses (script : Script) (seed deny kill : ℕ) (conditions : List Condition) (run : ℕ) : Type 0 where
  pub events : List Event
  pub line : RunLine
  pub explored : IsExplored script seed deny kill run events line
  pub misses : SomeRunMisses script.config events conditions

-- none of the first runs meets them
abbrev pub NoneMeets : Script → Hunt → List Condition → (runs : ℕ) → Type 0
NoneMeets script hunt conditions runs =
    (run : ℕ) → run < runs → RunMisses script hunt.seed hunt.chances.deny hunt.chances.kill conditions run

-- this run meets them, and is the first to do so
pub record IsFound (script : Script) (hunt : Hunt) (conditions : List Condition) (found : Found) : Type 0 where
  pub within : found.run < hunt.limit
  pub meets : RunMeets script hunt.seed hunt.chances.deny hunt.chances.kill conditions found.run found.trace.events.items
  pub first : NoneMeets script hunt conditions found.run
  pub config : sizes found.trace.config ≡ sizes script.config
  pub few : length found.trace.events.items ≤ 1000000
