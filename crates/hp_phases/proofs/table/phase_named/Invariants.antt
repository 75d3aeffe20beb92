use Rattle.std.proofs.Common.{◌≡◌, ◌<◌, ℕ}
use Rattle.std.specs.Prelude.{slice_index_or}
use Rattle.hp_machine.specs.Text.{phase_word}
use Rattle.hp_machine.specs.declared.phase.Phase.TheVariants as phase
use Rattle.hp_phases.specs.Phases.{all_phases}
use Rattle.hp_phases.proofs.table.phase_named.Given as goal

-- none of the phases so far is called so
abbrev pub invariant-loop-place : goal.invariant-loop-place
invariant-loop-place l = (k : ℕ) → k < l.place → phase_word (slice_index_or all_phases k phase.Start) ≡ l.word → ⊥
