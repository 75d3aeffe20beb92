-- Facts of any lists.
use Rattle.std.proofs.Common.{◌≡◌, ℕ, zero, suc, ◌+◌, ◌<◌, ◌⊎◌, Bool, ◌||◌, List, [], ◌∷◌, ◌++◌, length, map, get_or, inl, inr, refl, sym}
use Rattle.std.proofs.Common.{◌∙◌, subst, arith}
use Rattle.std.specs.Prelude.{All, AllPairs, Contains, sum_by}
use Rattle.std.specs.List.{list_any}
use Rattle.std.proofs.lemmas.Bool.{cases_lt}
use Rattle.std.proofs.lemmas.List.{get_or-append-add, get_or-map, get_or_append_left, get_or_default, length-append, length-map}
use Rattle.std.proofs.lemmas.List.Elements.{All-append, All-map, All-tail, Contains-get_or}
use Rattle.std.proofs.lemmas.List.Kept.{AllPairs-cons}
use Rattle.std.proofs.lemmas.List.Sums.{sum_by-cons}

-- what holds behind the first element
pub pairs_tail : {X : Type 0} (R : X → X → Type 0) (x : X) (xs : List X) → AllPairs R (x ∷ xs) → AllPairs R xs
pairs_tail R x xs pairs i j d lt within = pairs (suc i) (suc j) d (omega (arith, lt)) (omega (arith, within))

-- and between it and those
pub pairs_head : {X : Type 0} (R : X → X → Type 0) (x : X) (xs : List X) → AllPairs R (x ∷ xs) → All (R x) xs
pairs_head R x xs pairs k d within = pairs 0 (suc k) d (omega arith) (omega (arith, within))

-- what holds of the pairs of two lists, and of each element of one with each of the other
pub pairs_append : {X : Type 0} (R : X → X → Type 0) (xs ys : List X) → AllPairs R xs → AllPairs R ys → All (λ x. All (R x) ys) xs
    → AllPairs R (xs ++ ys)
pairs_append R [] ys inner outer across = outer
pairs_append {X} R (x ∷ xs) ys inner outer across =
    AllPairs-cons R x (xs ++ ys) (All-append (R x) xs ys (pairs_head R x xs inner) (across 0 x (omega arith)))
    (pairs_append R xs ys (pairs_tail R x xs inner) outer (All-tail (λ (z : X). All (R z) ys) x xs across))

-- what holds of what f makes of each two elements holds of each two mapped ones
pub pairs_map : {X Y : Type 0} (R : Y → Y → Type 0) (f : X → Y) (xs : List X) → AllPairs (λ x y. R (f x) (f y)) xs → AllPairs R (map f xs)
pairs_map R f [] pairs = λ i j d lt within. absurd (omega (arith, within))
pairs_map {X} R f (x ∷ xs) pairs =
    AllPairs-cons R (f x) (map f xs) (All-map (R (f x)) f xs (pairs_head (λ (y z : X). R (f y) (f z)) x xs pairs))
    (pairs_map R f xs (pairs_tail (λ (y z : X). R (f y) (f z)) x xs pairs))

-- what a mapped list has is of an element
pub mapped : {X Y : Type 0} (f : X → Y) (xs : List X) (y : Y) → Contains (map f xs) y → (x : X) × Contains xs x × (f x ≡ y)
mapped f [] y has = absurd (omega (arith, has.1))
mapped f (x ∷ xs) y has =
    let within : has.0 < length (x ∷ xs) = omega (arith, has.1, length-map (x ∷ xs) f) in
    (get_or (x ∷ xs) has.0 x, Contains-get_or (x ∷ xs) has.0 x within, sym (get_or-map f (x ∷ xs) has.0 x y within) ∙ has.2)

-- and what is made of an element is there
pub mapped_has : {X Y : Type 0} (f : X → Y) (xs : List X) (x : X) → Contains xs x → Contains (map f xs) (f x)
mapped_has f xs x has = (
  has.0,
  omega (arith, has.1, length-map xs f),
  get_or-map f xs has.0 x (f x) has.1 ∙ (λ i. f (has.2 i)),
)

-- a list has an element or not, where elements can be compared
pub has_or_not : {X : Type 0} → ((x y : X) → (x ≡ y) ⊎ (x ≡ y → ⊥)) → (xs : List X) (x : X) → Contains xs x ⊎ (Contains xs x → ⊥)
has_or_not eq [] x = inr (λ has. omega (arith, has.1))
has_or_not {X} eq (y ∷ ys) x = by (eq y x) (has_or_not eq ys x)
  where
    neither : (y ≡ x → ⊥) → (Contains ys x → ⊥) → (k : ℕ) → k < length (y ∷ ys) → get_or (y ∷ ys) k x ≡ x → ⊥
    neither other none zero within is = other is
    neither other none (suc k) within is = none (k, omega (arith, within), is)

    by : (y ≡ x) ⊎ (y ≡ x → ⊥) → Contains ys x ⊎ (Contains ys x → ⊥) → Contains (y ∷ ys) x ⊎ (Contains (y ∷ ys) x → ⊥)
    by (inl same) rest = inl (0, omega arith, same)
    by (inr other) (inl has) = inl (suc has.0, omega (arith, has.1), has.2)
    by (inr other) (inr none) = inr (λ has. neither other none has.0 has.1 has.2)

-- a sum over mapped elements
pub sum_by_map : {X Y : Type 0} (h : Y → ℕ) (f : X → Y) (xs : List X) → sum_by h (map f xs) ≡ sum_by (λ x. h (f x)) xs
sum_by_map h f [] = refl
sum_by_map {X} h f (x ∷ xs) =
    let mine = sum_by-cons h (f x) (map f xs) in
    let own = sum_by-cons (λ (y : X). h (f y)) x xs in
    omega (arith, mine, own, sum_by_map h f xs)

-- a test of mapped elements
pub list_any_map : {X Y : Type 0} (p : Y → Bool) (f : X → Y) (xs : List X) → list_any p (map f xs) ≡ list_any (λ x. p (f x)) xs
list_any_map p f [] = refl
list_any_map p f (x ∷ xs) = λ i. p (f x) || list_any_map p f xs i

-- tests with the same answers
pub list_any_same : {X : Type 0} (p q : X → Bool) (xs : List X) → ((x : X) → p x ≡ q x) → list_any p xs ≡ list_any q xs
list_any_same p q [] same = refl
list_any_same p q (x ∷ xs) same = λ i. same x i || list_any_same p q xs same i

-- sums of what makes up a third in each element
pub sums_add : {X : Type 0} (f g h : X → ℕ) (xs : List X) → All (λ x. f x + g x ≡ h x) xs → sum_by f xs + sum_by g xs ≡ sum_by h xs
sums_add f g h [] each = refl
sums_add {X} f g h (x ∷ xs) each =
    let first = sum_by-cons f x xs in
    let second = sum_by-cons g x xs in
    let third = sum_by-cons h x xs in
    let here = each 0 x (omega arith) in
    omega (arith, first, second, third, here, sums_add f g h xs (All-tail (λ (y : X). f y + g y ≡ h y) x xs each))

-- what holds of each element of two lists in a row, or of each mapped one
pub all_left : {X : Type 0} (P : X → Type 0) (xs ys : List X) → All P (xs ++ ys) → All P xs
all_left P xs ys all k d within =
    subst P (get_or_append_left xs ys d k within) (all k d (omega (arith, within, length-append xs ys)))

-- .. so of the second ..
pub all_right : {X : Type 0} (P : X → Type 0) (xs ys : List X) → All P (xs ++ ys) → All P ys
all_right P xs ys all k d within =
    subst P (get_or-append-add xs ys k d) (all (length xs + k) d (omega (arith, within, length-append xs ys)))

-- .. and so of what was mapped
pub all_unmap : {X Y : Type 0} (P : Y → Type 0) (f : X → Y) (xs : List X) → All P (map f xs) → All (λ x. P (f x)) xs
all_unmap P f xs all k d within = subst P (get_or-map f xs k d (f d) within) (all k (f d) (omega (arith, within, length-map xs f)))

-- and of each two
pub pairs_left : {X : Type 0} (R : X → X → Type 0) (xs ys : List X) → AllPairs R (xs ++ ys) → AllPairs R xs
pairs_left {X} R xs ys pairs i j d lt within =
    subst (λ (y : X). R (get_or xs i d) y) (get_or_append_left xs ys d j within)
    (subst (λ (x : X). R x (get_or (xs ++ ys) j d)) (get_or_append_left xs ys d i (omega (arith, lt, within)))
    (pairs i j d lt (omega (arith, within, length-append xs ys))))

-- .. of the second list ..
pub pairs_right : {X : Type 0} (R : X → X → Type 0) (xs ys : List X) → AllPairs R (xs ++ ys) → AllPairs R ys
pairs_right {X} R xs ys pairs i j d lt within =
    subst (λ (y : X). R (get_or ys i d) y) (get_or-append-add xs ys j d)
    (subst (λ (x : X). R x (get_or (xs ++ ys) (length xs + j) d)) (get_or-append-add xs ys i d)
    (pairs (length xs + i) (length xs + j) d (omega (arith, lt)) (omega (arith, within, length-append xs ys))))

-- .. and of what was mapped
pub pairs_unmap : {X Y : Type 0} (R : Y → Y → Type 0) (f : X → Y) (xs : List X) → AllPairs R (map f xs) → AllPairs (λ x y. R (f x) (f y)) xs
pairs_unmap {X} {Y} R f xs pairs i j d lt within =
    subst (λ (y : Y). R (f (get_or xs i d)) y) (get_or-map f xs j d (f d) within)
    (subst (λ (x : Y). R x (get_or (map f xs) j (f d))) (get_or-map f xs i d (f d) (omega (arith, lt, within)))
    (pairs i j (f d) lt (omega (arith, within, length-map xs f))))

-- where each element stands to the next in an order, each stands so to all later ones
pub pairs_chain : {X : Type 0} (R : X → X → Type 0) → ((x y z : X) → R x y → R y z → R x z) → (xs : List X) (d : X)
    → ((n : ℕ) → n + 1 < length xs → R (get_or xs n d) (get_or xs (n + 1) d)) → AllPairs R xs
pairs_chain {X} R joins xs d next = λ i j e lt within.
    subst (λ (y : X). R (get_or xs i e) y) (get_or_default xs j d e within)
    (subst (λ (x : X). R x (get_or xs j d)) (get_or_default xs i d e (omega (arith, lt, within))) (all i j lt within))
  where
    step : (j : ℕ) → suc j < length xs → R (get_or xs j d) (get_or xs (suc j) d)
    step j within =
        let same : j + 1 ≡ suc j = omega arith in
        subst (λ (k : ℕ). R (get_or xs j d) (get_or xs k d)) same (next j (omega (arith, within)))

    all : (i j : ℕ) → i < j → j < length xs → R (get_or xs i d) (get_or xs j d)
    all i zero lt within = absurd (omega (arith, lt))
    all i (suc j) lt within = elim (cases_lt i j) [
      | inl less ↦ joins (get_or xs i d) (get_or xs j d) (get_or xs (suc j) d) (all i j less (omega (arith, within))) (step j within)
      | inr more ↦ (let same : j ≡ i = omega (arith, lt, more) in
          subst (λ (k : ℕ). R (get_or xs k d) (get_or xs (suc j) d)) same (step j within))
    ]
