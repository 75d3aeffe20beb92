-- Functions of numbers that are changed at one place, and their sums.
use Rattle.std.specs.Prelude.{ℕ, ◌+◌, ◌==◌, Bool, true, false, Option, Some, None, zero, suc, if◌then◌else◌}

-- f with v at k
unfoldable pub put : {A : Type 0} → (ℕ → A) → ℕ → A → ℕ → A
put f k v = λ j. if j == k then v else f j

-- f with v at (k, j)
abbrev pub put2 : {A : Type 0} → (ℕ → ℕ → A) → ℕ → ℕ → A → ℕ → ℕ → A
put2 f k j v = put f k (put (f k) j v)

-- f 0 + .. + f (n - 1)
unfoldable pub total : ℕ → (ℕ → ℕ) → ℕ
total zero f = 0
total (suc n) f = total n f + f n

-- 1 for a place that counts
abbrev pub bit : Bool → ℕ
bit true = 1
bit false = 0

abbrev pub is_none : {A : Type 0} → Option A → Bool
is_none None = true
is_none (Some _) = false
