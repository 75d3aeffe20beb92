use Rattle.std.proofs.Common.{◌≡◌, ◌≤◌, ℕ, map, length, take, slice_index_or}
use Rattle.hp_shared.specs.Journal.{Uses}
use Rattle.hp_shared.specs.Unused.{unused}
use Rattle.hp_shared.proofs.order.compare.Given as goal

abbrev pub invariant-loop-k : goal.invariant-loop-k
invariant-loop-k g l =
    Uses l.first (take l.k l.journal) (map g.S.Listed.listed l.lists) (unused (map g.S.Listed.listed l.lists) l.used.items)
    × (length l.used.items ≡ length l.lists)
    × ((j : ℕ) → slice_index_or l.used.items j 0 ≤ l.k)
