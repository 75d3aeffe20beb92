-- What a wrong count, or an index that is taken out, does to those that were promised a page.
use Rattle.std.specs.Prelude.{◌≡◌, ℕ, Option, Some, None, List, [], ◌∷◌}
use Rattle.hp_base.specs.declared.answer.Answer.{Answer}
use Rattle.hp_base.specs.declared.answer.Answer.TheVariants as answer
use Rattle.hp_base.specs.declared.event.Event.{Event}
use Rattle.hp_machine.specs.State.{Geometry, State, free_frames}
use Rattle.hp_machine.specs.Events.{EventRows, RunBy, opening}
use Rattle.hp_machine.specs.Headline.{reserved_in, vacant_in}
use Rattle.hp_machine.specs.declared.outcome.Outcome.{Outcome}
use Rattle.hp_machine.specs.declared.outcome.Outcome.TheVariants.{Ended}
use Rattle.hp_laws.specs.Histories.{events_of}
use Rattle.hp_counterexamples.specs.Runs.{IsAtRest, Leads}

-- by these rows the events lead to rest, where so many frames are free, and so many reserved indices have no page
abbrev pub LeavesWaiting : EventRows → Geometry → (frames : ℕ) → List Event → (free waiting : ℕ) → Type 0
LeavesWaiting rows g frames events free waiting =
    Leads rows g frames events (λ s. IsAtRest s × (free_frames s.frame s.frames ≡ free) × (vacant_in s ≡ waiting))

-- the outcome of the last event
abbrev pub last_outcome : List (Event × Outcome) → Option Outcome
last_outcome [] = None
last_outcome (e ∷ []) = Some e.1
last_outcome (e ∷ (f ∷ es)) = last_outcome (f ∷ es)

-- by these rows the events lead from one state to the other, and the last one ends its call with that answer
abbrev pub Answers : EventRows → State → List Event → Answer → State → Type 0
Answers rows s events answer new =
    (log : List (Event × Outcome)) × (events_of log ≡ events) × RunBy rows s log new × (last_outcome log ≡ Some (Ended answer))

-- The first events end with a map's answer, whose one index is reserved. The next ones end with a touch that is refused memory, and
-- then nothing is in flight, reserved or counted
abbrev pub TakesBack : EventRows → Geometry → (frames : ℕ) → (promise back_out : List Event) → (base : ℕ) → Type 0
TakesBack rows g frames promise back_out base =
    (promised after : State) × Answers rows (opening g frames) promise (answer.Mapped base) promised × (reserved_in promised ≡ 1)
    × Answers rows promised back_out answer.NoMemory after × IsAtRest after × (reserved_in after ≡ 0) × (after.resv ≡ 0)

-- the same; and then the last events end with a touch of the mapping that finds no frame
abbrev pub FindsNoFrame : EventRows → Geometry → (frames : ℕ) → (promise back_out touch : List Event) → (base : ℕ) → Type 0
FindsNoFrame rows g frames promise back_out touch base =
    (promised after end : State) × Answers rows (opening g frames) promise (answer.Mapped base) promised
    × Answers rows promised back_out answer.NoMemory after × Answers rows after touch answer.NoFrame end
