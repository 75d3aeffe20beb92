-- so many are kept
use Rattle.std.proofs.Common.{ℕ, ◌<◌}
use Rattle.std.specs.Prelude.{slice_index_or}
use Rattle.hp_hunt.specs.declared.condition.Condition.{Condition}
use Rattle.hp_every.specs.Eager.{IsKept}
use Rattle.hp_search.proofs.eager.are_kept.Given as goal

abbrev pub invariant-loop-condition : goal.invariant-loop-condition
invariant-loop-condition l = (k : ℕ) (d : Condition) → k < l.condition-index → IsKept (slice_index_or l.conditions k d).sought
