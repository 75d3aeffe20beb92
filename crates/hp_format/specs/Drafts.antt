-- A trace while it is written, and the pool to which it happened.
use Rattle.std.specs.Prelude.{◌≡◌, ℕ, true, List}
use Rattle.hp_base.specs.Text.{Sizes, sizes}
use Rattle.hp_base.specs.declared.config.Config.{Config}
use Rattle.hp_base.specs.declared.event.Event.{Event}
use Rattle.hp_base.specs.declared.event.Event.TheVariants.{Step}
use Rattle.hp_core.specs.Runs.{IsOpening, Row, Run}
use Rattle.hp_core.specs.State.{CoreState}
use Rattle.hp_machine.specs.declared.outcome.Outcome.{Outcome}
use Rattle.hp_machine.specs.declared.outcome.Outcome.TheVariants as outcome
use Rattle.hp_format.specs.declared.asked.Goal.{Goal}
use Rattle.hp_format.specs.declared.asked.Goal.TheVariants.{Stands, Ended}

-- the sizes of the pool, what it is now, and what happened to it
pub record DraftState : Type 0 where
  pub sizes : Sizes
  pub core : CoreState
  pub events : List Event

-- the events happened to a pool that was opened so, one after the other, and led to this core
pub record IsLed (config : Config) (core : CoreState) (events : List Event) : Type 0 where
  pub first : CoreState
  pub opening : IsOpening config first
  pub outcomes : List Outcome
  pub run : Run first events outcomes core

-- the outcome of a step reaches what steps are made until
abbrev pub Reaches : Goal → Outcome → Type 0
Reaches (Stands phase) (outcome.Moved at) = at ≡ phase
Reaches (Stands phase) outcome.Begun = ⊥
Reaches (Stands phase) (outcome.Blocked holder) = ⊥
Reaches (Stands phase) (outcome.Ended answer) = ⊥
Reaches (Stands phase) outcome.Marked = ⊥
Reaches (Stands phase) (outcome.Resized frames) = ⊥
Reaches (Stands phase) (outcome.Refused why) = ⊥
Reaches Ended (outcome.Ended answer) = Unit {0}
Reaches Ended outcome.Begun = ⊥
Reaches Ended (outcome.Moved at) = ⊥
Reaches Ended (outcome.Blocked holder) = ⊥
Reaches Ended outcome.Marked = ⊥
Reaches Ended (outcome.Resized frames) = ⊥
Reaches Ended (outcome.Refused why) = ⊥

-- What the next step of the task's call would come to: the events happen to some pool that was opened so, and then the step
pub record WouldCome (z : Sizes) (events : List Event) (task : ℕ) (outcome : Outcome) : Type 0 where
  pub config : Config
  pub sizes_are : sizes config ≡ z
  pub core : CoreState
  pub led : IsLed config core events
  pub new : CoreState
  pub row : Row core (Step task true) outcome new
