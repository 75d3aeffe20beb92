-- What is laid out, item by item.
use Rattle.std.proofs.Common.{◌≡◌, ℕ, zero, suc, ◌+◌, ◌<◌, ◌≤◌, List, [], ◌∷◌, ◌++◌, length, take, refl, sym, ap, ◌∙◌, append_assoc, arith}
use Rattle.std.specs.Prelude.{slice_index_or}
use Rattle.std.specs.List.{flat_map, range_with_len}
use Rattle.std.proofs.lemmas.List.{flat_map_more, take_all, take_more}

-- one item more
pub laid_more : {X : Type 0} (f : X → List ℕ) (all : List X) (n : ℕ) (x d : X) (base old new : List ℕ) → n < length all
    → x ≡ slice_index_or all n d → old ≡ base ++ flat_map f (take n all) → new ≡ old ++ f x
    → new ≡ base ++ flat_map f (take (n + 1) all)
laid_more {X} f all n x d base old new lt is had more =
    more ∙ ap (λ (bs : List ℕ). bs ++ f x) had ∙ flat_map_more f base (take n all) x
    ∙ ap (λ (xs : List X). base ++ flat_map f xs) (ap (λ (y : X). take n all ++ y ∷ []) is ∙ sym (take_more all n d lt))

-- all of them
pub laid_all : {X : Type 0} (f : X → List ℕ) (all : List X) (n : ℕ) (base new : List ℕ) → length all ≤ n
    → new ≡ base ++ flat_map f (take n all) → new ≡ base ++ flat_map f all
laid_all {X} f all n base new le had = had ∙ ap (λ (xs : List X). base ++ flat_map f xs) (take_all n all le)

pub range_at : (from n k d : ℕ) → k < n → slice_index_or (range_with_len from n) k d ≡ from + k
range_at from zero k d lt = absurd (omega (arith, lt))
range_at from (suc n) zero d lt = omega arith
range_at from (suc n) (suc k) d lt =
    let rest = range_at (from + 1) n k d (omega (arith, lt)) in
    omega (arith, rest)

pub range_long : (from n : ℕ) → length (range_with_len from n) ≡ n
range_long from zero = refl
range_long from (suc n) = omega (arith, range_long (from + 1) n)

-- seven texts, each laid out behind those before
pub joined : (r t a h m e o x0 x1 x2 x3 x4 x5 x6 x7 : List ℕ) → x0 ≡ [] → x1 ≡ x0 ++ r → x2 ≡ x1 ++ t → x3 ≡ x2 ++ a → x4 ≡ x3 ++ h
    → x5 ≡ x4 ++ m → x6 ≡ x5 ++ e → x7 ≡ x6 ++ o → x7 ≡ r ++ (t ++ (a ++ (h ++ (m ++ (e ++ o)))))
joined r t a h m e o x0 x1 x2 x3 x4 x5 x6 x7 is0 is1 is2 is3 is4 is5 is6 is7 =
    let step : x7 ≡ (((((r ++ t) ++ a) ++ h) ++ m) ++ e) ++ o =
    is7 ∙ ap (λ (x : List ℕ). x ++ o) (is6 ∙ ap (λ (x : List ℕ). x ++ e) (is5 ∙ ap (λ (x : List ℕ). x ++ m) (is4
    ∙ ap (λ (x : List ℕ). x ++ h) (is3 ∙ ap (λ (x : List ℕ). x ++ a) (is2 ∙ ap (λ (x : List ℕ). x ++ t) (is1
    ∙ ap (λ (x : List ℕ). x ++ r) is0)))))) in
    step ∙ simp append_assoc
