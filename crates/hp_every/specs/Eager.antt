-- Eager turns. Where a task may begin its next call, or its call may make a private step, a schedule to its end may as well make that turn
-- first: a search that is eager tries no other turn there.
use Rattle.std.specs.Prelude.{◌≡◌, ◌<◌, ◌+◌, ◌++◌, ◌∷◌, ◌↔◌, ◌⊎◌, ℕ, Bool, true, false, List, None, All, Contains}
use Rattle.std.specs.Prelude.{length, slice_index_or}
use Rattle.hp_base.specs.declared.event.Event.TheVariants.{Step}
use Rattle.hp_machine.specs.declared.outcome.Life.TheVariants.{Alive}
use Rattle.hp_machine.specs.declared.outcome.Outcome.TheVariants.{Begun}
use Rattle.hp_core.specs.State.{CoreState}
use Rattle.hp_core.specs.Readers.{life_of}
use Rattle.hp_watch.specs.Moments.{Moment}
use Rattle.hp_explore.specs.Schedule.{Plan, CanTurn, in_call}
use Rattle.hp_hunt.specs.Conditions.{Finds}
use Rattle.hp_hunt.specs.declared.condition.Condition.{Condition}
use Rattle.hp_hunt.specs.declared.condition.Sought.{Sought}
use Rattle.hp_hunt.specs.declared.condition.Sought.TheVariants as sought
use Rattle.hp_every.specs.declared.turn.Turn.{Turn}
use Rattle.hp_every.specs.declared.turn.Turn.TheVariants.{Next}
use Rattle.hp_every.specs.Endings.{answers_in}
use Rattle.hp_every.specs.Private.{StepIsPrivate}
use Rattle.hp_every.specs.Schedules.{AnyTurn, IsFinal, IsTask, Leads, MayTurn, Place, plan_for, world}
use Rattle.hp_every.specs.Search.{GoesOn, HasTurns, PathState, Question}
use Rattle.hp_every.specs.Turns.{turn_of}

-- the task may begin its next call, and is alive, so that the begin isn't refused
pub record MayBegin (plan : Plan) (p : Place) (task : ℕ) : Type 0 where
  pub there : IsTask p task
  pub idle : in_call (world p) task ≡ false
  pub can : CanTurn plan (world p) task
  pub alive : life_of p.core task ≡ Alive

-- the task is alive, and the next step of its call is private
pub record MayStepAlone (p : Place) (task : ℕ) : Type 0 where
  pub there : IsTask p task
  pub lives : life_of p.core task ≡ Alive
  pub private : StepIsPrivate p.core.parts p.core.task_states task

-- the task may do one of both
abbrev pub MayGoFirst : Plan → Place → (task : ℕ) → Type 0
MayGoFirst plan p task = MayBegin plan p task ⊎ MayStepAlone p task

-- no step may be denied any more, and no task killed
pub record IsCalm (p : Place) : Type 0 where
  pub denials : p.denials ≡ 0
  pub kills : p.kills ≡ 0

-- of the tasks that may go first in such a place it is the first
pub record IsEager (plan : Plan) (p : Place) (task : ℕ) : Type 0 where
  pub calm : IsCalm p
  pub goes : MayGoFirst plan p task
  pub first : (u : ℕ) → u < task → MayGoFirst plan p u → ⊥

-- the turn is tried from there: if the search is eager, and a task is, it is that task's
abbrev pub IsTried : Plan → Place → (eager : Bool) → Turn → Type 0
IsTried plan p false turn = Unit {0}
IsTried plan p true turn = (task : ℕ) → IsEager plan p task → turn ≡ Next task

-- these turns are all that may be made there and are tried
unfoldable pub AreTried : Plan → Place → (eager : Bool) → List Turn → Type 0
AreTried plan p eager turns = (turn : Turn) → (Contains turns turn ↔ (MayTurn plan p turn × IsTried plan p eager turn))

-- the second schedule is the first with one turn more, which is tried from there
pub record Tries (a : Question) (eager : Bool) (s t : PathState) : Type 0 where
  pub goes : GoesOn a s t
  pub tried : (x : HasTurns a s.turns) → IsTried (plan_for a.script) x.last eager goes.next

-- What is sought is found as well where a task begins its call or makes a private step sooner: an answer, unless a count is asked for as
-- it comes; and a count at the end. A task that waits, and calls that stand in phases, are sought at a moment, which may be missed.
abbrev pub IsKept : Sought → Type 0
IsKept (sought.Answer s) = s.counted ≡ None
IsKept (sought.Blocked t) = ⊥
IsKept (sought.Meet t phase u other) = ⊥
IsKept (sought.Final c) = Unit {0}

-- A search for these conditions may be eager: each is kept, and that at this place is one on a whole schedule, so that all are looked
-- at where no turn may be made.
pub record MayBeEager (conditions : List Condition) : Type 0 where
  pub kept : All (λ c. IsKept c.sought) conditions
  pub place : ℕ
  pub within : place < length conditions
  pub whole : (d : Condition) → IsFinal (slice_index_or conditions place d)

-- Another schedule from there to the same place has the task's turn first. It has as many moments, and calls end in it with the same
-- answers, those of each task in the same order. What is kept is found in both or in neither, whatever happened before.
pub record ComesFirst (plan : Plan) (p : Place) (task : ℕ) (moments : List Moment) (last : Place) : Type 0 where
  pub own : Moment
  pub next : Place
  pub turn : AnyTurn plan p own.event own.outcome next
  pub core : own.core ≡ next.core
  pub is : turn_of own.event ≡ Next task
  pub others : List Moment
  pub leads : Leads plan next others last
  pub long : length moments ≡ length others + 1
  pub answers : (before : List Moment) → answers_in (moments ++ before) ≡ answers_in (others ++ own ∷ before)
  pub kept : (first : CoreState) (before : List Moment) (s : Sought) → IsKept s
      → (Finds first (moments ++ before) s ↔ Finds first (others ++ own ∷ before) s)

-- and that turn begins the task's next call
pub record BeginsFirst (plan : Plan) (p : Place) (task : ℕ) (moments : List Moment) (last : Place) : Type 0 where
  pub first : ComesFirst plan p task moments last
  pub begun : first.own.outcome ≡ Begun

-- and that turn is a step of the task's call, which is granted
pub record StepsFirst (plan : Plan) (p : Place) (task : ℕ) (moments : List Moment) (last : Place) : Type 0 where
  pub first : ComesFirst plan p task moments last
  pub step : first.own.event ≡ Step task true
