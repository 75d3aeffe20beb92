-- none of so many is looked at in the end
use Rattle.std.proofs.Common.{ℕ, ◌<◌}
use Rattle.std.specs.Prelude.{slice_index_or}
use Rattle.hp_hunt.specs.declared.condition.Condition.{Condition}
use Rattle.hp_every.specs.Schedules.{IsFinal}
use Rattle.hp_search.proofs.path.has_final.Given as goal

abbrev pub invariant-loop-condition : goal.invariant-loop-condition
invariant-loop-condition l = (k : ℕ) (d : Condition) → k < l.condition-index → IsFinal (slice_index_or l.conditions k d) → ⊥
