-- What happened, as a list of moments.
use Rattle.std.specs.Prelude.{◌≡◌, ℕ, List, [], ◌∷◌, ◌++◌}
use Rattle.hp_base.specs.declared.event.Event.{Event}
use Rattle.hp_machine.specs.State.{Geometry, State}
use Rattle.hp_machine.specs.Events.{Row, opening}
use Rattle.hp_machine.specs.declared.outcome.Outcome.{Outcome}

-- one event of a run, with the states around it
pub record Moment : Type 0 where
  pub before : State
  pub event : Event
  pub outcome : Outcome
  pub after : State

-- what happened from the opening state on, the latest first
abbrev pub History : Geometry → (frames : ℕ) → List Moment → State → Type 0
History g frames [] s = s ≡ opening g frames
History g frames (m ∷ ms) s = (m.after ≡ s) × Row m.before m.event m.outcome m.after × History g frames ms m.before

-- the events with their outcomes, the earliest first
abbrev pub in_order : List Moment → List (Event × Outcome)
in_order [] = []
in_order (m ∷ ms) = in_order ms ++ ((m.event, m.outcome) ∷ [])

-- the events without their outcomes
abbrev pub events_of : List (Event × Outcome) → List Event
events_of [] = []
events_of (e ∷ es) = e.0 ∷ events_of es
