-- Sets of indices as they are kept: a bit each, 64 in a word.
use Rattle.std.specs.Prelude.{ℕ, ◌/◌, ◌%◌, ◌==◌, Bool, List, slice_index_or, if◌then◌else◌}
use Rattle.std.specs.Int.{bit_at}
use Rattle.hp_base.specs.Indices.{is_within}

-- whether a bit of a word is 1
abbrev pub is_on : ℕ → ℕ → Bool
is_on word bit = bit_at word bit == 1

-- whether the bit of index k is 1
unfoldable pub has_bit : List ℕ → ℕ → Bool
has_bit words k = is_on (slice_index_or words (k / 64) 0) (k % 64)

-- the set with all of [from, to), or with none of them
unfoldable pub put_range : (ℕ → Bool) → ℕ → ℕ → Bool → ℕ → Bool
put_range set from to value = λ k. if is_within from to k then value else set k
