-- The phases in which calls stand, kept beside a core as words.
use Rattle.std.specs.Prelude.{◌≡◌, ◌-◌, ◌≤◌, ℕ, Option, None, Some, List, length, slice_index_or}
use Rattle.hp_machine.specs.declared.phase.Phase.{Phase}
use Rattle.hp_machine.specs.declared.outcome.Outcome.{Outcome}
use Rattle.hp_machine.specs.declared.outcome.Outcome.TheVariants as outcome
use Rattle.hp_core.specs.State.{CoreState}
use Rattle.hp_core.specs.Readers.{phase_of}

-- what the outcome of a task's event tells of the phase where its call stands then
abbrev pub Agrees : Outcome → Option Phase → Type 0
Agrees (outcome.Moved p) at = at ≡ Some p
Agrees (outcome.Ended a) at = at ≡ None
Agrees other at = Unit {0}

-- the words of the phases in which the calls of the tasks stand, from task 1 on
unfoldable pub ArePhases : CoreState → List (Option Phase) → Type 0
ArePhases core phases =
    (t : ℕ) (d : Option Phase) → 1 ≤ t → t ≤ length phases → slice_index_or phases (t - 1) d ≡ phase_of core t
