-- Turns without their outcomes: what may be done in a place, and what a search keeps of a schedule.
use Rattle.std.specs.Prelude.{◌≡◌, ◌⊎◌, ◌↔◌, ℕ, List, [], ◌∷◌, ◌++◌, Contains, if◌then◌else◌}
use Rattle.hp_base.specs.declared.event.Event.{Event}
use Rattle.hp_base.specs.declared.event.Event.TheVariants as event
use Rattle.hp_watch.specs.Moments.{Moment}
use Rattle.hp_explore.specs.Schedule.{Plan}
use Rattle.hp_every.specs.declared.turn.Turn.{Turn}
use Rattle.hp_every.specs.declared.turn.Turn.TheVariants.{Next, Denied, Killed}
use Rattle.hp_every.specs.Schedules as schedule
use Rattle.hp_every.specs.Schedules.{Begins, IsTask, MayTurn, Place, Steps}

-- the task whose turn it is
abbrev pub task_of : Turn → ℕ
task_of (Next t) = t
task_of (Denied t) = t
task_of (Killed t) = t

-- the turn of an event; a resize is no turn of a task
abbrev pub turn_of : Event → Turn
turn_of (event.Begin t op) = Next t
turn_of (event.Step t granted) = if granted then Next t else Denied t
turn_of (event.Kill t) = Killed t
turn_of (event.Resize frames) = Next 0

-- the turns of the moments, the earliest first; in a list of moments the latest comes first
abbrev pub turns_of : List Moment → List Turn
turns_of [] = []
turns_of (m ∷ before) = turns_of before ++ turn_of m.event ∷ []

-- the turn asks for the event, and takes what it takes: nothing is made of it yet
pub record IsChosen (plan : Plan) (p : Place) (turn : Turn) (asks : Event) (q : Place) : Type 0 where
  pub there : IsTask p (task_of turn)
  pub same : turn_of asks ≡ turn
  pub choice : Begins plan p (task_of turn) asks q ⊎ (Steps plan p (task_of turn) asks q
      ⊎ (schedule.Denied plan p (task_of turn) asks q ⊎ schedule.Killed plan p (task_of turn) asks q))

-- the turns are all that may be made there
unfoldable pub AreAllTurns : Plan → Place → List Turn → Type 0
AreAllTurns plan p turns = (turn : Turn) → (Contains turns turn ↔ MayTurn plan p turn)
