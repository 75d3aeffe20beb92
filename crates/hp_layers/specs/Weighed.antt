-- In how many ways runs end, exactly up to a number that counts as that many or more.
use Rattle.std.specs.Prelude.{◌≡◌, ◌<◌, ◌+◌, ◌*◌, ℕ, List, [], ◌∷◌, Option, Some, min}

-- what 128 bits hold at most
abbrev pub most : ℕ
most = 340282366920938463463374607431768211455

-- two numbers are equal, or both are that many or more
abbrev pub IsAsMany : ℕ → ℕ → Type 0
IsAsMany a b = min a most ≡ min b most

-- what the states come to, each as often as the number at its place says
abbrev pub weigh : {S : Type 0} → List ℕ → List S → (S → ℕ) → ℕ
weigh [] states f = 0
weigh (n ∷ ns) [] f = 0
weigh (n ∷ ns) (s ∷ states) f = n * f s + weigh ns states f

-- the places that are there are below that number
unfoldable pub AreWithin : {K : Type 0} → (K → Option ℕ) → ℕ → Type 0
AreWithin {K} place n = (k : K) (j : ℕ) → place k ≡ Some j → j < n
