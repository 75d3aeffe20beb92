-- That values differ from each other.
use Rattle.std.specs.Prelude.{◌≡◌, ◌==◌, ◌<◌, ℕ, Bool, List, length, slice_index_or}

-- the values at two places are equal exactly where the two are one place
abbrev pub AllDiffer : {X : Type 0} → (eq : X → X → Bool) → List X → Type 0
AllDiffer {X} eq xs = (i j : ℕ) (d : X) → i < length xs → j < length xs → eq (slice_index_or xs i d) (slice_index_or xs j d) ≡ (i == j)
