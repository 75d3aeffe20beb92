use Rattle.std.proofs.Common.{◌≡◌, ◌<◌, ℕ, [], map, MatchOption, slice_index_or}
use Rattle.hp_shared.specs.Journal.{BeginsWith}
use Rattle.hp_shared.specs.Unused.{unused}
use Rattle.hp_shared.proofs.order.next_of.Given as goal

abbrev pub invariant-loop-i : goal.invariant-loop-i
invariant-loop-i g l =
    MatchOption l.found
    ((j : ℕ) → j < l.i → ¬ (BeginsWith l.entry (slice_index_or (unused (map g.S.Listed.listed l.lists) l.used) j [])))
    (λ f.
    (f < l.i)
    × BeginsWith l.entry (slice_index_or (unused (map g.S.Listed.listed l.lists) l.used) f [])
    × ((j : ℕ) → j < l.i → BeginsWith l.entry (slice_index_or (unused (map g.S.Listed.listed l.lists) l.used) j []) → j ≡ f))
