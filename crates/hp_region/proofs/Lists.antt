-- What a walk over the regions tells of them, and makes of them.
use Rattle.std.specs.Prelude.{ℕ, suc, ◌+◌, ◌-◌, min, max, Bool, ◌&&◌, nat_le, nat_lt, cond, List, [], ◌∷◌, ◌++◌}
use Rattle.std.specs.List.{list_any}
use Rattle.hp_region.specs.declared.region.Region.{Region}

-- whether one of the regions overlaps or touches [from, to)
abbrev pub meets : List Region → ℕ → ℕ → Bool
meets rs from to = list_any (λ r. nat_le from r.to && nat_le r.from to) rs

-- whether a region has both neighbours of index i, so that it falls apart without i
abbrev pub falls_apart : List Region → ℕ → Bool
falls_apart rs i = list_any (λ r. nat_lt r.from i && nat_lt (i + 1) r.to) rs

-- [from, to) in front of the regions, merged with those that it meets
abbrev pub absorb : List Region → ℕ → ℕ → List Region
absorb [] from to = record { from = from; to = to } ∷ []
absorb (r ∷ rs) from to = cond (nat_le r.from to) (absorb rs (min from r.from) (max to r.to)) (record { from = from; to = to } ∷ r ∷ rs)

-- the regions with [from, to)
abbrev pub with_range : List Region → ℕ → ℕ → List Region
with_range [] from to = absorb [] from to
with_range (r ∷ rs) from to = cond (nat_lt r.to from) (r ∷ with_range rs from to) (absorb (r ∷ rs) from to)

-- how many indices of [from, to) a region holds
abbrev pub overlap_of : ℕ → ℕ → Region → ℕ
overlap_of from to r = min to r.to - max r.from from

-- how many indices of [from, to) the regions hold
abbrev pub held_within : List Region → ℕ → ℕ → ℕ
held_within [] from to = 0
held_within (r ∷ rs) from to = overlap_of from to r + held_within rs from to

-- how many regions end at or below i
abbrev pub ended_by : List Region → ℕ → ℕ
ended_by [] i = 0
ended_by (r ∷ rs) i = cond (nat_le r.to i) (suc (ended_by rs i)) (ended_by rs i)

-- what is left of a region without index i, which lies in it
abbrev pub around : Region → ℕ → List Region
around r i =
    cond (nat_lt r.from i) (record { from = r.from; to = i } ∷ []) []
    ++ cond (nat_lt (i + 1) r.to) (record { from = i + 1; to = r.to } ∷ []) []

-- the regions without index i
abbrev pub without : List Region → ℕ → List Region
without [] i = []
without (r ∷ rs) i = cond (nat_le r.to i) (r ∷ without rs i) (cond (nat_lt i r.from) (r ∷ rs) (around r i ++ rs))

-- the regions without the indices at or above i
abbrev pub below : List Region → ℕ → List Region
below [] i = []
below (r ∷ rs) i = cond (nat_le r.to i) (r ∷ below rs i) (cond (nat_lt r.from i) (record { from = r.from; to = i } ∷ []) [])
