-- Places from which the same may follow, and what tells them.
use Rattle.std.specs.Prelude.{◌≡◌, ◌++◌, ◌∷◌, ℕ, List, []}
use Rattle.hp_machine.specs.declared.outcome.Outcome.{Outcome}
use Rattle.hp_sequential.specs.Renaming.{Alike}
use Rattle.hp_core.specs.State.{CoreState, as_state}
use Rattle.hp_text.specs.declared.script.Script.{Script}
use Rattle.hp_watch.specs.Moments.{Moment, events_of}
use Rattle.hp_key.specs.Key.{key_words}
use Rattle.hp_key.specs.Numbers.{counted, wide}
use Rattle.hp_explore.specs.Schedule.{Plan}
use Rattle.hp_every.specs.Schedules.{IsSchedule, Leads, Place}

-- The words of a place: the denials and kills that are left, how many calls each task has begun, and the key of the core. No frame is named
-- in them.
abbrev pub place_words : Place → List ℕ
place_words p = p.denials ∷ p.kills ∷ (counted wide p.made ++ key_words p.core)

-- some schedule of the script leads there
pub record IsPlaceOf (script : Script) (p : Place) : Type 0 where
  pub denials : ℕ
  pub kills : ℕ
  pub first : CoreState
  pub moments : List Moment
  pub schedule : IsSchedule script denials kills first moments p

-- the frames of the one have other names in the other, and all else is the same
pub record AreAlike (p q : Place) : Type 0 where
  pub state : Alike (as_state p.core) (as_state q.core)
  pub sizes : p.core.sizes ≡ q.core.sizes
  pub made : p.made ≡ q.made
  pub denials : p.denials ≡ q.denials
  pub kills : p.kills ≡ q.kills

-- what came of each moment, the latest first
abbrev pub outcomes_of : List Moment → List Outcome
outcomes_of [] = []
outcomes_of (m ∷ before) = m.outcome ∷ outcomes_of before

-- The same events may happen from that place on, with the same outcomes, and lead to a place that differs from the last in the names of frames
-- alone.
pub record HasFuture (plan : Plan) (p : Place) (moments : List Moment) (last : Place) : Type 0 where
  pub others : List Moment
  pub there : Place
  pub leads : Leads plan p others there
  pub events : events_of others ≡ events_of moments
  pub outcomes : outcomes_of others ≡ outcomes_of moments
  pub alike : AreAlike last there
