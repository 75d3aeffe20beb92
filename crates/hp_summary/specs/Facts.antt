-- What a summary is told of one run.
use Rattle.std.specs.Prelude.{◌≡◌, ◌≢◌, ◌↔◌, ◌-◌, ◌≤◌, ℕ, true, false, List, Some, length}
use Rattle.std.specs.Prelude.{slice_index_or}
use Rattle.std.specs.List.Sorted.{IsSortedByKey, IsStableByKey}
use Rattle.std.specs.Ordering.{nat_cmp}
use Rattle.hp_base.specs.declared.event.Event.{Event}
use Rattle.hp_machine.specs.declared.phase.Phase.{Phase}
use Rattle.hp_core.specs.Readers.{phase_of}
use Rattle.hp_core.specs.State.{CoreState}
use Rattle.hp_core.specs.Waiting.{WaitsFor}
use Rattle.hp_explore.specs.Explored.{EndsWell, IsExplored}
use Rattle.hp_text.specs.declared.script.Script.{Script}
use Rattle.hp_watch.specs.Calls.{ended_in}
use Rattle.hp_watch.specs.Moments.{Moment, IsRunOf, Once}
use Rattle.hp_summary.specs.Phases.{IsMarked}
use Rattle.hp_watch.specs.declared.calls.EndedCall.{EndedCall}
use Rattle.hp_summary.specs.declared.facts.RunFacts.{RunFacts}

-- the next step of the task's call would be blocked by somebody
unfoldable pub IsHeldUp : CoreState → (task : ℕ) → Type 0
IsHeldUp core t = (holder : ℕ) × WaitsFor core t (Some holder)

-- the calls of two tasks stand in these phases
unfoldable pub StandTogether : CoreState → Phase → Phase → Type 0
StandTogether core p q = (t : ℕ) × (u : ℕ) × (t ≢ u) × (phase_of core t ≡ Some p) × (phase_of core u ≡ Some q)

-- at that moment the task was held up
abbrev pub WasHeldUp : (task : ℕ) → List Moment → Moment → Type 0
WasHeldUp t before m = IsHeldUp m.core t

-- at that moment the two phases met
abbrev pub HaveMet : Phase → Phase → List Moment → Moment → Type 0
HaveMet p q before m = StandTogether m.core p q

-- These are the calls that ended, task by task, those of a task in the order in which they did.
pub record AreAnswers (moments : List Moment) (ended : List EndedCall) : Type 0 where
  pub tasks : IsSortedByKey (λ e. e.task) nat_cmp ended
  pub each : IsStableByKey (λ e. e.task) nat_cmp (ended_in moments) ended

-- Run number `run` of the script's runs has these facts: its line, the answers of its calls, which tasks were held up at some moment,
-- and which phases met.
pub record IsFactsOf (script : Script) (seed deny kill run : ℕ) (facts : RunFacts) : Type 0 where
  pub events : List Event
  pub first : CoreState
  pub moments : List Moment
  pub explored : IsExplored script seed deny kill run events facts.line
  pub ends : EndsWell facts.line.finish
  pub made : IsRunOf script.config events first moments
  pub answers : AreAnswers moments facts.ended.items
  pub tasks : length facts.held.items ≡ script.config.tasks
  pub held : (t : ℕ) → 1 ≤ t → t ≤ script.config.tasks
      → (slice_index_or facts.held.items (t - 1) false ≡ true ↔ Once (WasHeldUp t) moments)
  pub pairs : length facts.met.items ≡ 729
  pub met : (p q : Phase) → IsMarked facts.met.items p q ↔ Once (HaveMet p q) moments
