-- What stands at a range of numbers, and pieces of it, one after the other.
use Rattle.std.proofs.Common.{◌≡◌, ◌+◌, ◌<◌, ℕ, zero, suc, List, [], ◌∷◌, ◌++◌, length, get_or, refl, subst, sym, ap, ◌∙◌, arith}
use Rattle.std.specs.List.{AllZip, range_with_len}
use Rattle.rayon.specs.Shown.{run-append}
use Rattle.rayon.proofs.ListFacts.{AllZip-append}

-- where each number of a piece meets its item, and each of the next piece, each of both does
pub pieces_joined : {Y : Type 0} (R : ℕ → Y → Type 0) (from n at m all : ℕ) (ys zs both : List Y) → from + n ≡ at → n + m ≡ all
    → both ≡ ys ++ zs → AllZip R (range_with_len from n) ys → AllZip R (range_with_len at m) zs
    → AllZip R (range_with_len from all) both
pieces_joined {Y} R from n at m all ys zs both next sum shown here there =
    let Second : ℕ → Type 0 = λ k. AllZip R (range_with_len k m) zs in
    let Numbers : List ℕ → Type 0 = λ xs. AllZip R xs (ys ++ zs) in
    let Items : List Y → Type 0 = λ ws. AllZip R (range_with_len from all) ws in
    let joined = AllZip-append R (range_with_len from n) (range_with_len (from + n) m) ys zs here (subst Second (sym next) there) in
    subst Items (sym shown) (subst Numbers (run-append from n m ∙ ap (range_with_len from) sum) joined)

-- as many as there are numbers
pub made_long : {Y : Type 0} (R : ℕ → Y → Type 0) (from n : ℕ) (ys : List Y) → AllZip R (range_with_len from n) ys → length ys ≡ n
made_long R from zero [] h = refl
made_long R from zero (y ∷ ys) h = absurd h
made_long R from (suc n) [] h = absurd h
made_long R from (suc n) (y ∷ ys) h = omega (arith, made_long R (from + 1) n ys h.1)

-- each at its own
pub made_at : {Y : Type 0} (R : ℕ → Y → Type 0) (from n k : ℕ) (ys : List Y) (d : Y) → AllZip R (range_with_len from n) ys → k < n
    → R (from + k) (get_or ys k d)
made_at R from zero k ys d h within = absurd (omega (arith, within))
made_at R from (suc n) k [] d h within = absurd h
made_at {Y} R from (suc n) zero (y ∷ ys) d h within =
    let same : from ≡ from + 0 = omega arith in subst (λ (m : ℕ). R m y) same h.0
made_at {Y} R from (suc n) (suc k) (y ∷ ys) d h within =
    let same : from + 1 + k ≡ from + suc k = omega arith in
    subst (λ (m : ℕ). R m (get_or ys k d)) same (made_at R (from + 1) n k ys d h.1 (omega (arith, within)))

-- what stands at a place among those from 0 on
pub made_there : {Y : Type 0} (R : ℕ → Y → Type 0) (n k : ℕ) (ys : List Y) (y : Y) → AllZip R (range_with_len 0 n) ys → k < n
    → y ≡ get_or ys k y → R k y
made_there {Y} R n k ys y h within is =
    let same : 0 + k ≡ k = omega arith in
    subst (R k) (sym is) (subst (λ (m : ℕ). R m (get_or ys k y)) same (made_at R 0 n k ys y h within))

-- the same, by numbers that begin later
pub numbered : {Y : Type 0} (R : ℕ → Y → Type 0) (first from at n : ℕ) (ys : List Y) → at ≡ first + from
    → AllZip (λ k. R (first + k)) (range_with_len from n) ys → AllZip R (range_with_len at n) ys
numbered R first from at zero [] is h = tt
numbered R first from at zero (y ∷ ys) is h = absurd h
numbered R first from at (suc n) [] is h = absurd h
numbered {Y} R first from at (suc n) (y ∷ ys) is h =
    (subst (λ (m : ℕ). R m y) (sym is) h.0, numbered R first (from + 1) (at + 1) n ys (omega (arith, is)) h.1)
