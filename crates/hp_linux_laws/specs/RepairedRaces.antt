-- Calls that are raced on repaired rows, and what it is for a race to end right.
use Rattle.std.specs.Prelude.{◌≡◌, ℕ, List, []}
use Rattle.hp_base.specs.declared.event.Op.TheVariants as op
use Rattle.hp_base.specs.declared.event.Event.{Event}
use Rattle.hp_machine.specs.State.{Geometry}
use Rattle.hp_machine.specs.Events.{EventRows}
use Rattle.hp_machine.specs.Headline.{vacant_in}
use Rattle.hp_machine.specs.declared.outcome.Outcome.{Outcome}
use Rattle.hp_laws.specs.Histories.{events_of}
use Rattle.hp_counterexamples.specs.Runs.{steps, calls, IsAtRest}
use Rattle.hp_linux.specs.Whole.{Linux, WholeRun, begins}

-- the calls of a recorded loss (lost_at_a_commit): a touch misses nothing, and a truncation comes to its index. It waits there for the
-- touch, and takes the page away, and its index with it
abbrev pub raced_at_a_commit : List Event
raced_at_a_commit =
    calls 2 (op.MapNoReserve 0 0 1) 0 (calls 1 (op.Map 0 0 1) 7 (calls 1 (op.Load 0) 4 (steps 2 4
    (calls 2 (op.Truncate 0 0) 3 (steps 1 5 (steps 2 8 []))))))

-- the events lead to rest, where the count is this number, and so many reserved indices have no page
abbrev pub EndsRight : EventRows → Geometry → (frames : ℕ) → List Event → (counted : ℕ) → Type 0
EndsRight rows g frames events counted =
    (log : List (Event × Outcome)) × (l : Linux) × (events_of log ≡ events) × WholeRun rows (begins g frames) log l
    × IsAtRest l.state × (l.state.resv ≡ counted) × (l.debt ≡ 0) × (vacant_in l.state ≡ counted)
