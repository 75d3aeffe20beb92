-- What is known of a run while it is made.
use Rattle.std.specs.Prelude.{◌≡◌, ◌↔◌, ◌+◌, ◌-◌, ◌≤◌, ℕ, Bool, true, false, List, Option, None, Some, length, slice_index_or}
use Rattle.hp_base.specs.declared.event.Event.{Event}
use Rattle.hp_machine.specs.declared.outcome.Outcome.{Outcome}
use Rattle.hp_machine.specs.declared.phase.Phase.{Phase}
use Rattle.hp_machine.specs.Events.{IsReached}
use Rattle.hp_laws.specs.Laws.{IsOf}
use Rattle.hp_core.specs.Passing.{task_may_pass}
use Rattle.hp_core.specs.Runs.{Row}
use Rattle.hp_core.specs.State.{CoreState, as_state}
use Rattle.hp_watch.specs.Phases.{ArePhases}
use Rattle.hp_summary.specs.Facts.{HaveMet, IsHeldUp, StandTogether, WasHeldUp}
use Rattle.hp_watch.specs.Calls.{AreCalls, ended_in}
use Rattle.hp_watch.specs.Moments.{Moment, Once}
use Rattle.hp_summary.specs.Phases.{IsMarked}
use Rattle.hp_summary.specs.declared.noting.Notes.{Notes}

-- the event, with that outcome, led to that core, from one where calls stood so
pub record CameBy (phases : List (Option Phase)) (event : Event) (outcome : Outcome) (core : CoreState) : Type 0 where
  pub old : CoreState
  pub reached : IsReached (as_state old)
  pub row : Row old event outcome core
  pub were : ArePhases old phases

-- The event is one of no other task than that at the place, whose call stands where it takes and leaves no slot and no lock.
pub record IsQuiet (event : Event) (phases : List (Option Phase)) (place : ℕ) : Type 0 where
  pub alone : (u : ℕ) → IsOf u event → u ≡ place + 1
  pub keeps : task_may_pass (slice_index_or phases place None) ≡ false

-- whether the task at place k is looked at: that at the given place is, or where none is given, each
abbrev pub IsLookedAt : Option ℕ → (k : ℕ) → Type 0
IsLookedAt (Some place) k = k ≡ place
IsLookedAt None k = Unit {0}

-- there is room for each task, and for each pair of phases
pub record AreLong (notes : Notes) (tasks : ℕ) : Type 0 where
  pub phases : length notes.phases.items ≡ tasks
  pub held : length notes.held.items ≡ tasks
  pub met : length notes.met.items ≡ 729

-- the phases that met at one of these moments are marked, and those that stand together now
pub record AreMet (met : List Bool) (core : CoreState) (moments : List Moment) : Type 0 where
  pub once : (p q : Phase) → IsMarked met p q ↔ Once (HaveMet p q) moments
  pub now : (p q : Phase) → StandTogether core p q → IsMarked met p q

-- the tasks that were held up at one of these moments are marked, and those that are held up now
pub record AreHeldUp (held : List Bool) (core : CoreState) (moments : List Moment) : Type 0 where
  pub once : (t : ℕ) → 1 ≤ t → t ≤ length held → (slice_index_or held (t - 1) false ≡ true ↔ Once (WasHeldUp t) moments)
  pub now : (t : ℕ) → 1 ≤ t → t ≤ length held → IsHeldUp core t → slice_index_or held (t - 1) false ≡ true

-- the notes are those of these moments, the last of which led to that core
pub record AreNotes (notes : Notes) (core : CoreState) (moments : List Moment) : Type 0 where
  pub reached : IsReached (as_state core)
  pub phases : ArePhases core notes.phases.items
  pub calls : AreCalls notes.calls.tasks.items moments
  pub ended : notes.ended.items ≡ ended_in moments
  pub held : AreHeldUp notes.held.items core moments
  pub met : AreMet notes.met.items core moments
