-- Lists of regions, as sets of indices.
use Rattle.std.specs.Prelude.{ℕ, ◌+◌, ◌<◌, ◌≤◌, Bool, List, [], ◌∷◌}
use Rattle.std.specs.List.{list_any}
use Rattle.hp_base.specs.Indices.{is_within}
use Rattle.hp_base.specs.declared.limits.TheConstants.{LIMIT}
use Rattle.hp_region.specs.declared.region.Region.{Region}

-- whether index k lies in one of the regions
abbrev pub is_member : List Region → ℕ → Bool
is_member rs k = list_any (λ r. is_within r.from r.to k) rs

-- the regions stand in order at or above `low`, none is empty, and between two of them lies at least
-- one index
abbrev pub IsApartFrom : ℕ → List Region → Type 0
IsApartFrom low [] = Unit {0}
IsApartFrom low (r ∷ rs) = (low ≤ r.from) × (r.from < r.to) × (r.to ≤ LIMIT) × IsApartFrom (r.to + 1) rs
