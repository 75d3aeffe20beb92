use Rattle.std.proofs.Common.{◌≡◌, ◌<◌, ℕ, [], map, slice_index_or}
use Rattle.hp_shared.specs.Unused.{unused}
use Rattle.hp_shared.proofs.order.all_used.Given as goal

abbrev pub invariant-loop-i : goal.invariant-loop-i
invariant-loop-i g l = (j : ℕ) → j < l.i → slice_index_or (unused (map g.S.Listed.listed l.lists) l.used) j [] ≡ []
