-- A run, moment by moment.
use Rattle.std.specs.Prelude.{◌≡◌, ◌⊎◌, List, [], ◌∷◌, ◌++◌}
use Rattle.hp_base.specs.declared.config.Config.{Config}
use Rattle.hp_base.specs.declared.event.Event.{Event}
use Rattle.hp_machine.specs.declared.outcome.Outcome.{Outcome}
use Rattle.hp_core.specs.State.{CoreState}
use Rattle.hp_core.specs.Runs.{IsOpening, Row}

-- one event of a run, what came of it, and the core behind it
pub record Moment : Type 0 where
  pub event : Event
  pub outcome : Outcome
  pub core : CoreState

-- the events of the moments, the earliest first; in a list of moments the latest comes first
abbrev pub events_of : List Moment → List Event
events_of [] = []
events_of (m ∷ before) = events_of before ++ m.event ∷ []

-- where the moments lead
abbrev pub last_of : CoreState → List Moment → CoreState
last_of first [] = first
last_of first (m ∷ before) = m.core

-- from that core on each moment is a row of the machine, behind the moment before it
unfoldable pub IsHistory : CoreState → List Moment → Type 0
IsHistory first [] = Unit {0}
IsHistory first (m ∷ before) = IsHistory first before × Row (last_of first before) m.event m.outcome m.core

-- these moments are a run of these events, from a new core of that config on
pub record IsRunOf (config : Config) (events : List Event) (first : CoreState) (moments : List Moment) : Type 0 where
  pub opening : IsOpening config first
  pub history : IsHistory first moments
  pub made : events_of moments ≡ events

-- at one of the moments this holds, of those before it and of it
unfoldable pub Once : (List Moment → Moment → Type 0) → List Moment → Type 0
Once P [] = ⊥
Once P (m ∷ before) = P before m ⊎ Once P before
