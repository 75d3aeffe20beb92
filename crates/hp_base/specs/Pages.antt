-- The pages of a file, as the frame of each index that has one.
use Rattle.std.specs.Prelude.{◌≡◌, ℕ, ◌≤◌, Option, None}

-- one more than the highest index that has a page, or 0 where none has
abbrev pub IsPagesEnd : (ℕ → Option ℕ) → ℕ → Type 0
IsPagesEnd pages end = ((i : ℕ) → end ≤ i → pages i ≡ None) × ((other : ℕ) → ((i : ℕ) → other ≤ i → pages i ≡ None) → end ≤ other)
