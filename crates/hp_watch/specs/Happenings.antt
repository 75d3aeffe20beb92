-- Events that happen one after the other.
use Rattle.std.specs.Prelude.{◌≡◌, ℕ, ◌==◌, List, [], ◌∷◌, map, Option, None, if◌then◌else◌}
use Rattle.hp_base.specs.declared.event.Event.{Event}
use Rattle.hp_core.specs.Readers.{config_of, phase_of}
use Rattle.hp_core.specs.Runs.{Row}
use Rattle.hp_core.specs.State.{CoreState}
use Rattle.hp_machine.specs.declared.outcome.Outcome.{Outcome}
use Rattle.hp_machine.specs.declared.phase.Phase.{Phase}
use Rattle.hp_text.specs.Columns.{column_of}
use Rattle.hp_watch.specs.Holders.{AreHolders}

-- the phase in which the call of the task in that column stands
abbrev pub phase_in : CoreState → (column : ℕ) → Option Phase
phase_in core column = if column == 0 then None else phase_of core column

-- that in which the call of the event's task does
abbrev pub stood_at : CoreState → Event → Option Phase
stood_at core event = phase_in core (column_of (config_of core).tasks event)

-- an event, what came of it, the core that it led to, by whom each task's next step would be blocked there, and where the call of the
-- event's task stood before it
pub record Happening : Type 0 where
  pub event : Event
  pub outcome : Outcome
  pub core : CoreState
  pub holders : List (Option ℕ)
  pub from : Option Phase

abbrev pub events_of : List Happening → List Event
events_of list = map (λ h. h.event) list

-- it is a row of the machine, whom each task waits for behind it is known, and where its call stood
abbrev pub Happened : CoreState → Happening → Type 0
Happened old h = Row old h.event h.outcome h.core × AreHolders h.core h.holders × (h.from ≡ stood_at old h.event)

-- one after the other they happened, and lead from old to new
abbrev pub Happens : CoreState → List Happening → CoreState → Type 0
Happens old [] new = new ≡ old
Happens old (h ∷ more) new = Happened old h × Happens h.core more new
