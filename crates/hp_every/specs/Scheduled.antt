-- What it is for a run that an explorer made to be a schedule.
use Rattle.std.specs.Prelude.{◌≡◌, ◌+◌, ℕ, Bool, true, false, not, List, [], ◌∷◌, if◌then◌else◌}
use Rattle.hp_base.specs.declared.event.Event.{Event}
use Rattle.hp_base.specs.declared.event.Event.TheVariants.{Begin, Step, Kill, Resize}
use Rattle.hp_machine.specs.declared.outcome.Outcome.{Outcome}
use Rattle.hp_core.specs.State.{CoreState}
use Rattle.hp_text.specs.declared.script.Script.{Script}
use Rattle.hp_watch.specs.Moments.{Moment, IsRunOf}
use Rattle.hp_explore.specs.declared.line.Finish.{Finish}
use Rattle.hp_explore.specs.declared.line.Finish.TheVariants.{Finished}
use Rattle.hp_every.specs.Schedules.{Ends, Place, IsSchedule, plan_for}

-- the event is a step that isn't granted
abbrev pub is_denied : Event → Bool
is_denied (Begin t op) = false
is_denied (Step t granted) = not granted
is_denied (Kill t) = false
is_denied (Resize frames) = false

-- the event is a kill
abbrev pub is_kill : Event → Bool
is_kill (Begin t op) = false
is_kill (Step t granted) = false
is_kill (Kill t) = true
is_kill (Resize frames) = false

-- of how many events this holds
abbrev pub how_many : (Event → Bool) → List Event → ℕ
how_many test [] = 0
how_many test (event ∷ rest) = (if test event then 1 else 0) + how_many test rest

-- what the event asks for, whether it is granted or not
abbrev pub asked : Event → Event
asked (Begin t op) = Begin t op
asked (Step t granted) = Step t true
asked (Kill t) = Kill t
asked (Resize frames) = Resize frames

-- what each moment asked for, what came of it, and the core behind it
abbrev pub told : List Moment → List (Event × (Outcome × CoreState))
told [] = []
told (m ∷ before) = (asked m.event, (m.outcome, m.core)) ∷ told before

-- Some run of these events and some schedule ask for the same, and have the same outcomes and states, moment by moment: a step that was
-- denied and wanted no memory is granted in the schedule. Where the run finished no turn may be made.
pub record IsScheduled (script : Script) (denials kills : ℕ) (events : List Event) (finish : Finish) : Type 0 where
  pub first : CoreState
  pub made : List Moment
  pub run : IsRunOf script.config events first made
  pub moments : List Moment
  pub last : Place
  pub schedule : IsSchedule script denials kills first moments last
  pub same : told moments ≡ told made
  pub ended : finish ≡ Finished → Ends (plan_for script) last
