-- The gaps between mappings that are in order, and below the first of them.
use Rattle.std.specs.Prelude.{ℕ, ◌+◌, ◌-◌, ◌++◌, Bool, nat_lt, List, [], ◌∷◌, Option, None, Some, take, drop, zero, suc, if◌then◌else◌}
use Rattle.std.specs.List.{prefix_len}
use Rattle.hp_base.specs.declared.mapping.Mapping.{Mapping}
use Rattle.hp_table.specs.declared.gaps.Gap.{Gap}

-- the pages from one up to another, where there are any
abbrev pub between : (from to : ℕ) → List Gap
between from to = if nat_lt from to then record { base = from; len = to - from } ∷ [] else []

-- what lies below each mapping, from `low` on, that no mapping has; what lies above them all is none of these
abbrev pub gaps_of : (low : ℕ) → List Mapping → List Gap
gaps_of low [] = []
gaps_of low (m ∷ ms) = between low m.base ++ gaps_of (m.base + m.len) ms

-- where the last of the first mappings ends, and `low` where there is none
abbrev pub end_of : (low : ℕ) → List Mapping → (count : ℕ) → ℕ
end_of low ms zero = low
end_of low [] (suc k) = low
end_of low (m ∷ ms) (suc k) = end_of (m.base + m.len) ms k

-- the gap from a page up to the mapping at a place in the list, where there are both
abbrev pub up_to : List Mapping → (at from : ℕ) → List Gap
up_to [] at from = []
up_to (m ∷ ms) zero from = between from m.base
up_to (m ∷ ms) (suc at) from = up_to ms at from

-- the gap begins below the page
abbrev pub is_below : ℕ → Gap → Bool
is_below v g = nat_lt g.base v

-- the gaps without those that begin at a page of [from, end], in whose place others stand
abbrev pub swapped : List Gap → (from end : ℕ) → List Gap → List Gap
swapped gs from end fresh = take (prefix_len (is_below from) gs) gs ++ (fresh ++ drop (prefix_len (is_below (end + 1)) gs) gs)

-- a gap or none, as a list
abbrev pub listed : Option Gap → List Gap
listed None = []
listed (Some g) = g ∷ []
