-- All schedules of a script, apart from any explorer: the turns that may be made in a place, and where they lead.
use Rattle.std.specs.Prelude.{◌≡◌, ◌+◌, ◌-◌, ◌≤◌, ◌⊎◌, ℕ, true, false, List, [], ◌∷◌, Some, All}
use Rattle.std.specs.Prelude.{MatchBool, length, replicate, slice_index, slice_set}
use Rattle.hp_base.specs.declared.event.Op.{Op}
use Rattle.hp_base.specs.declared.event.Event.{Event}
use Rattle.hp_base.specs.declared.event.Event.TheVariants.{Begin, Step, Kill}
use Rattle.hp_machine.specs.declared.outcome.Life.TheVariants.{Alive}
use Rattle.hp_machine.specs.declared.outcome.Outcome.{Outcome}
use Rattle.hp_core.specs.State.{CoreState}
use Rattle.hp_core.specs.Readers.{life_of}
use Rattle.hp_core.specs.Runs.{IsOpening, Row, StepWants}
use Rattle.hp_text.specs.declared.script.Script.{Script}
use Rattle.hp_watch.specs.Moments.{Moment, events_of}
use Rattle.hp_explore.specs.Schedule.{Plan, World, CanTurn, in_call, next_call, plan_of, seeded}
use Rattle.hp_explore.specs.Explored.{is_done}
use Rattle.hp_hunt.specs.Conditions.{MeetsAll}
use Rattle.hp_hunt.specs.declared.condition.Condition.{Condition}
use Rattle.hp_hunt.specs.declared.condition.Sought.{Sought}
use Rattle.hp_hunt.specs.declared.condition.Sought.TheVariants as sought
use Rattle.hp_every.specs.declared.turn.Turn.{Turn}
use Rattle.hp_every.specs.declared.turn.Turn.TheVariants as turn

-- a place in some schedule: the core, how many of its calls each task has begun, how many steps may still be denied and tasks killed
pub record Place : Type 0 where
  pub core : CoreState
  pub made : List ℕ
  pub denials : ℕ
  pub kills : ℕ

-- the place as a run of an explorer between two turns; no turn of a schedule looks at the generator, or at how many turns were made
abbrev pub world : Place → World
world p = record { core = p.core; made = p.made; rng = seeded 0; turns = 0 }

-- the calls of a script, and what they wait for; no turn of a schedule looks at chances
abbrev pub plan_for : Script → Plan
plan_for script = plan_of script 0 0

-- the task has no call in flight, and begins its next
pub record Begins (plan : Plan) (p : Place) (task : ℕ) (event : Event) (q : Place) : Type 0 where
  pub idle : in_call (world p) task ≡ false
  pub can : CanTurn plan (world p) task
  pub op : Op
  pub next : next_call plan p.made task ≡ Some op
  pub is : event ≡ Begin task op
  pub made : q.made ≡ slice_set p.made (task - 1) (slice_index p.made (task - 1) + 1)
  pub denials : q.denials ≡ p.denials
  pub kills : q.kills ≡ p.kills

-- its call makes a step, which is granted
pub record Steps (plan : Plan) (p : Place) (task : ℕ) (event : Event) (q : Place) : Type 0 where
  pub busy : in_call (world p) task ≡ true
  pub can : CanTurn plan (world p) task
  pub is : event ≡ Step task true
  pub made : q.made ≡ p.made
  pub denials : q.denials ≡ p.denials
  pub kills : q.kills ≡ p.kills

-- its call makes a step that wants memory, and that is denied
pub record Denied (plan : Plan) (p : Place) (task : ℕ) (event : Event) (q : Place) : Type 0 where
  pub busy : in_call (world p) task ≡ true
  pub can : CanTurn plan (world p) task
  pub wants : StepWants p.core.parts p.core.task_states task
  pub is : event ≡ Step task false
  pub made : q.made ≡ p.made
  pub denials : p.denials ≡ q.denials + 1
  pub kills : q.kills ≡ p.kills

-- it is alive, has a call in flight or one left, and is killed, whether it is held up or not
pub record Killed (plan : Plan) (p : Place) (task : ℕ) (event : Event) (q : Place) : Type 0 where
  pub alive : life_of p.core task ≡ Alive
  pub more : is_done plan (world p) task ≡ false
  pub is : event ≡ Kill task
  pub made : q.made ≡ p.made
  pub denials : q.denials ≡ p.denials
  pub kills : p.kills ≡ q.kills + 1

-- any turn of any task
pub record AnyTurn (plan : Plan) (p : Place) (event : Event) (outcome : Outcome) (q : Place) : Type 0 where
  pub task : ℕ
  pub some : 1 ≤ task
  pub there : task ≤ length p.made
  pub choice : Begins plan p task event q ⊎ (Steps plan p task event q ⊎ (Denied plan p task event q ⊎ Killed plan p task event q))
  pub row : Row p.core event outcome q.core

-- turns from the first place lead there, moment by moment; the latest moment comes first
unfoldable pub Leads : Plan → (first : Place) → List Moment → (last : Place) → Type 0
Leads plan first [] last = last ≡ first
Leads plan first (m ∷ before) last =
    (p : Place) × Leads plan first before p × (m.core ≡ last.core) × AnyTurn plan p m.event m.outcome last

-- the place in which schedules begin: no call is begun
abbrev pub first_place : Script → (denials kills : ℕ) → CoreState → Place
first_place script denials kills first =
    record { core = first; made = replicate script.config.tasks 0; denials = denials; kills = kills }

-- These moments are those of a schedule of the script, from a new core to that place, with at most so many denied steps and killed tasks.
-- It may go on from there.
pub record IsSchedule (script : Script) (denials kills : ℕ) (first : CoreState) (moments : List Moment) (last : Place) : Type 0 where
  pub opening : IsOpening script.config first
  pub leads : Leads (plan_for script) (first_place script denials kills first) moments last

-- the task is one of the script's
abbrev pub IsTask : Place → (task : ℕ) → Type 0
IsTask p t = (1 ≤ t) × (t ≤ length p.made)

-- what may be done next: a task that may take a turn goes on, or a step of it that wants memory is denied, or one that isn't done is killed
abbrev pub MayTurn : Plan → Place → Turn → Type 0
MayTurn plan p (turn.Next t) = IsTask p t × CanTurn plan (world p) t
MayTurn plan p (turn.Denied t) = IsTask p t × CanTurn plan (world p) t × (in_call (world p) t ≡ true)
    × StepWants p.core.parts p.core.task_states t × (1 ≤ p.denials)
MayTurn plan p (turn.Killed t) = IsTask p t × (life_of p.core t ≡ Alive) × (is_done plan (world p) t ≡ false) × (1 ≤ p.kills)

-- no turn may be made there
abbrev pub Ends : Plan → Place → Type 0
Ends plan p = (next : Turn) → MayTurn plan p next → ⊥

-- what is sought is a count at the end
abbrev pub IsCount : Sought → Type 0
IsCount (sought.Answer s) = ⊥
IsCount (sought.Blocked t) = ⊥
IsCount (sought.Meet t phase u other) = ⊥
IsCount (sought.Final c) = Unit {0}

-- the condition is one on a whole schedule: on a count at its end, or that something isn't found
abbrev pub IsFinal : Condition → Type 0
IsFinal c = MatchBool c.wanted (IsCount c.sought) (Unit {0})

-- where a condition is looked at: one on a whole schedule where no turn may be made, any other in each place
abbrev pub IsLookedAt : Plan → Place → Condition → Type 0
IsLookedAt plan p c = IsFinal c → Ends plan p

-- these moments are those of a schedule that meets all conditions, in a place where each is looked at
pub record ScheduleMeets (script : Script) (denials kills : ℕ) (conditions : List Condition) (moments : List Moment) : Type 0 where
  pub first : CoreState
  pub last : Place
  pub schedule : IsSchedule script denials kills first moments last
  pub looked_at : All (IsLookedAt (plan_for script) last) conditions
  pub meets : MeetsAll conditions first moments

-- no schedule meets them
abbrev pub NoScheduleMeets : Script → (denials kills : ℕ) → List Condition → Type 0
NoScheduleMeets script denials kills conditions = (moments : List Moment) → ScheduleMeets script denials kills conditions moments → ⊥

-- the events are those of a schedule that meets them, and each that meets them has as many events at least
pub record IsShortest (script : Script) (denials kills : ℕ) (conditions : List Condition) (events : List Event) : Type 0 where
  pub moments : List Moment
  pub made : events_of moments ≡ events
  pub meets : ScheduleMeets script denials kills conditions moments
  pub shortest : (others : List Moment) → ScheduleMeets script denials kills conditions others → length moments ≤ length others
