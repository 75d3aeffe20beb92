-- Sets of page indices, as tests of a number: the ranges of hugetlbfs_reserv.rst, what a range adds
-- to a set or takes from it, and how many indices that is.
use Rattle.std.specs.Prelude.{ℕ, zero, suc, ◌+◌, ◌-◌, ◌≤◌, ◌<◌, IsTrue, Bool, cond, Option, not, ◌&&◌, ◌||◌, nat_le, nat_lt}
use Rattle.hp_base.specs.Numbers.{is_none}

-- whether k is one of [from, to)
abbrev pub is_within : ℕ → ℕ → ℕ → Bool
is_within from to k = nat_le from k && nat_lt k to

-- how many numbers below n are in the set
unfoldable pub count_below : (ℕ → Bool) → ℕ → ℕ
count_below set zero = zero
count_below set (suc n) = count_below set n + cond (set n) 1 0

-- how many of [from, to) are in the set
unfoldable pub count_within : (ℕ → Bool) → ℕ → ℕ → ℕ
count_within set from to = count_below (λ k. nat_le from k && set k) to

-- how many of [from, to) the set lacks: what `region_chg` tells
unfoldable pub missing : (ℕ → Bool) → ℕ → ℕ → ℕ
missing set from to = count_below (λ k. nat_le from k && not (set k)) to

-- the set with [from, to): what `region_add` makes of it
unfoldable pub add_range : (ℕ → Bool) → ℕ → ℕ → ℕ → Bool
add_range set from to = λ k. is_within from to k || set k

-- the set without its indices from one on: what `region_del` to the end makes of it
unfoldable pub cut_tail : (ℕ → Bool) → ℕ → ℕ → Bool
cut_tail set from = λ k. nat_lt k from && set k

-- how many indices below the limit are in the set and have no page: the reserved pages that wait
unfoldable pub vacant : ℕ → (ℕ → Bool) → (ℕ → Option ℕ) → ℕ
vacant limit set pages = count_below (λ k. set k && is_none (pages k)) limit

-- some index of the set lies in [from, to) or beside it: a range that is added there begins no region
-- of its own
unfoldable pub touches : (ℕ → Bool) → ℕ → ℕ → Bool
touches set from to = nat_lt 0 (count_within set (from - 1) (to + 1))

-- index i and both its neighbours are in the set: a region falls apart without it
abbrev pub splits : (ℕ → Bool) → ℕ → Bool
splits set i = nat_lt 0 i && set (i - 1) && set i && set (i + 1)

-- how many regions the set has below the limit: the places where one ends
unfoldable pub region_count : ℕ → (ℕ → Bool) → ℕ
region_count limit set = count_below (λ k. set k && not (set (k + 1))) limit

-- the set has every index of [from, to) that the other has
abbrev pub HasAllWithin : (ℕ → Bool) → (ℕ → Bool) → ℕ → ℕ → Type 0
HasAllWithin other set from to = (k : ℕ) → from ≤ k → k < to → IsTrue (other k) → IsTrue (set k)
