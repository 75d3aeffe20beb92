use Rattle.std.specs.Prelude.{◌≡◌, ◌==◌, ◌<◌, ℕ, length, slice_index_or}
use Rattle.hp_part_tests.proofs.differing.all_differ.Given as goal

-- of the values before `j` the value at `i` equals itself alone
abbrev pub invariant-loop-j : goal.invariant-loop-j
invariant-loop-j g l = (k : ℕ) (d : _) → k < l.j → g.T.PartialEq.eq l.one (slice_index_or l.values k d) ≡ (l.i == k)

-- of all values each before `i` equals itself alone
abbrev pub invariant-loop-i : goal.invariant-loop-i
invariant-loop-i g l =
    (h k : ℕ) (d : _) → h < l.i → k < length l.values
    → g.T.PartialEq.eq (slice_index_or l.values h d) (slice_index_or l.values k d) ≡ (h == k)
