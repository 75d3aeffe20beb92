-- Runs are explored each by itself, by whoever claims it.
use Rattle.std.specs.Prelude.{◌≡◌, ◌+◌, ◌<◌, ◌≤◌, ◌^◌, ℕ, List, Option, None, Some, length}
use Rattle.std.specs.Global.{Vec}
use Rattle.hp_base.specs.Text.{sizes}
use Rattle.hp_base.specs.declared.event.Event.{Event}
use Rattle.hp_explore.specs.Schedule.{plan_of}
use Rattle.hp_hunt.specs.Hunting.{RunMeets, RunMisses}
use Rattle.hp_hunt.specs.declared.claims.Batch.{Batch}
use Rattle.hp_hunt.specs.declared.finding.Found.{Found}

-- the runs are numbered in 32 bits, and go by the script's plan
pub record IsBatch (p : Batch) : Type 0 where
  pub planned : p.plan.now ≡ plan_of p.script.now p.plan.now.deny p.plan.now.kill
  pub fits : p.first + p.count < 2 ^ 32

-- the run at that place doesn't meet all conditions
unfoldable pub MissesAt : Batch → (place : ℕ) → Type 0
MissesAt p place = RunMisses p.script.now p.seed p.plan.now.deny p.plan.now.kill p.conditions.now (p.first + place)

-- it has these events, and meets them
unfoldable pub MeetsAt : Batch → (place : ℕ) → List Event → Type 0
MeetsAt p place events = RunMeets p.script.now p.seed p.plan.now.deny p.plan.now.kill p.conditions.now (p.first + place) events

-- of the run at that place this is told: its events, a million at most, where it meets all conditions, and none where it misses one
unfoldable pub TellsOf : Batch → (place : ℕ) → Option (Vec Event) → Type 0
TellsOf p place None = MissesAt p place
TellsOf p place (Some events) = MeetsAt p place events.items × (length events.items ≤ 1000000)

-- so many of the runs, from the first on, miss a condition
abbrev pub FirstsMiss : Batch → (count : ℕ) → Type 0
FirstsMiss p count = (k : ℕ) → k < count → MissesAt p k

-- all of them do
pub record AllMiss (p : Batch) : Type 0 where
  pub each : FirstsMiss p p.count

-- this is the first of the runs that meets all conditions
pub record IsFirstOf (p : Batch) (found : Found) : Type 0 where
  pub place : ℕ
  pub there : place < p.count
  pub number : found.run ≡ p.first + place
  pub meets : MeetsAt p place found.trace.events.items
  pub before : FirstsMiss p place
  pub config : sizes found.trace.config ≡ sizes p.script.now.config
  pub few : length found.trace.events.items ≤ 1000000
