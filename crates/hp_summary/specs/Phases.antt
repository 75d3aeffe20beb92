-- Which two phases met.
use Rattle.std.specs.Prelude.{◌≡◌, ◌<◌, ◌+◌, ◌*◌, ◌⊎◌, ◌==◌, ℕ, true, Bool, false, if◌then◌else◌, Option, None, Some, List}
use Rattle.std.specs.Prelude.{slice_index_or}
use Rattle.hp_machine.specs.declared.phase.Phase.{Phase}
use Rattle.hp_phases.specs.Phases.{place_of}

-- the place of two phases among all pairs
abbrev pub pair_place : Phase → Phase → ℕ
pair_place p q = place_of p * 27 + place_of q

-- the mark of two phases is set
unfoldable pub IsMarked : (marks : List Bool) → Phase → Phase → Type 0
IsMarked marks p q = slice_index_or marks (pair_place p q) false ≡ true

-- the two phases are these, in either order
abbrev pub ArePair : Phase → Phase → Phase → Phase → Type 0
ArePair p q a b = ((p ≡ a) × (q ≡ b)) ⊎ ((p ≡ b) × (q ≡ a))

-- where another task than the one at that place stands
abbrev pub beside : List (Option Phase) → (place other : ℕ) → Option Phase
beside phases place other = if other == place then None else slice_index_or phases other None

-- the task at that place stands in one of the two phases, and another, among the first so many, in the other
abbrev pub MeetsBelow : List (Option Phase) → (place below : ℕ) → Phase → Phase → Type 0
MeetsBelow phases place n p q =
    (other : ℕ) × (a : Phase) × (b : Phase) × (other < n) × (slice_index_or phases place None ≡ Some a)
    × (beside phases place other ≡ Some b) × ArePair p q a b
