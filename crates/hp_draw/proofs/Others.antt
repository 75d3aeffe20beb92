-- No column is found in which nothing stands, and no curve shows more than the most of its counts.
use Rattle.std.proofs.Common.{◌≡◌, ℕ, zero, suc, ◌+◌, ◌<◌, ◌≤◌, ◌⊎◌, inl, inr, Bool, true, false, List, [], ◌∷◌, ◌++◌, length, take, get_or, set}
use Rattle.std.proofs.Common.{Option, arith, length-append, refl, sym, ap, subst, max, true≢false, ◌∙◌}
use Rattle.std.specs.Prelude.{Any, IsTrue, replicate}
use Rattle.std.proofs.lemmas.List.{get_or_append_left, take_all, take_more}
use Rattle.std.proofs.lemmas.List.Quantifiers.{Any-push}
use Rattle.hp_draw.specs.Places.{IsLower, IsNear, IsUpper, IsUpperOrQuota}
use Rattle.hp_draw.specs.declared.following.Numbers.{Numbers}

-- ---- what holds of some of a list

-- it holds of some of a longer one
some_before : {A : Type 0} (P : A → Type 0) (xs ys : List A) → Any P xs → Any P (xs ++ ys)
some_before P xs ys had =
    let longer = length-append xs ys in
    let there : had.0 < length (xs ++ ys) = omega (arith, longer, had.2) in
    (had.0, had.1, there, get_or_append_left xs ys had.1 had.0 had.2 ∙ had.3, had.4)

-- of the first so many, and of one more
some_still : {A : Type 0} (P : A → Type 0) (xs : List A) (n : ℕ) (x : A) → n < length xs → Any P (take n xs) → Any P (take (n + 1) xs)
some_still P xs n x lt had = subst (Any P) (sym (take_more xs n x lt)) (some_before P (take n xs) (get_or xs n x ∷ []) had)

some_now : {A : Type 0} (P : A → Type 0) (xs : List A) (n : ℕ) (x : A) → n < length xs → x ≡ get_or xs n x → P x → Any P (take (n + 1) xs)
some_now P xs n x lt is has = subst (Any P) (sym (take_more xs n x lt)) (Any-push P (take n xs) (get_or xs n x) (subst P is has))

-- ---- columns

-- a column that is found now was found before, or is the one that was added
this_or_before : (found : List Bool) (i k : ℕ) → IsTrue (get_or (set found i true) k false) → (k ≡ i) ⊎ IsTrue (get_or found k false)
this_or_before [] i k there = inr there
this_or_before (x ∷ found) zero zero there = inl refl
this_or_before (x ∷ found) zero (suc k) there = inr there
this_or_before (x ∷ found) (suc i) zero there = inr there
this_or_before (x ∷ found) (suc i) (suc k) there = elim (this_or_before found i k there) [
  | inl same ↦ inl (ap suc same)
  | inr before ↦ inr before
]

-- at first none is
pub none_found : (n k : ℕ) → IsTrue (get_or (replicate n false) k false) → ⊥
none_found zero k there = true≢false (sym there)
none_found (suc n) zero there = true≢false (sym there)
none_found (suc n) (suc k) there = none_found n k there

-- where all that were found have something in them, and the one that is added has, all have
pub no_other : (found : List Bool) (i : ℕ) (Had Has : ℕ → Type 0) → ((k : ℕ) → Had k → Has k) → Has i
    → ((k : ℕ) → IsTrue (get_or found k false) → Had k) → (k : ℕ) → IsTrue (get_or (set found i true) k false) → Has k
no_other found i Had Has still now had k there = elim (this_or_before found i k there) [
  | inl same ↦ subst Has (sym same) now
  | inr before ↦ still k (had k before)
]

-- what stands in a column of the first so many stands there of one more, and so does this one in its own
pub stands_still : {A : Type 0} (column : A → ℕ) (xs slice : List A) (n : ℕ) (x : A) (k : ℕ) → slice ≡ xs → n < length slice
    → Any (λ y. column y ≡ k) (take n xs) → Any (λ y. column y ≡ k) (take (n + 1) xs)
stands_still {A} column xs slice n x k same lt had =
    some_still (λ y. column y ≡ k) xs n x (subst (λ (ys : List A). n < length ys) same lt) had

pub stands_now : {A : Type 0} (column : A → ℕ) (xs slice : List A) (n : ℕ) (x : A) → slice ≡ xs → n < length slice → x ≡ get_or slice n x
    → Any (λ y. column y ≡ column x) (take (n + 1) xs)
stands_now {A} column xs slice n x same lt is =
    some_now (λ y. column y ≡ column x) xs n x (subst (λ (ys : List A). n < length ys) same lt)
    (subst (λ (ys : List A). x ≡ get_or ys n x) same is) refl

-- all are the first so many
pub stands_in_all : {A : Type 0} (column : A → ℕ) (xs slice : List A) (n k : ℕ) → slice ≡ xs → length slice ≤ n
    → Any (λ y. column y ≡ k) (take n xs) → Any (λ y. column y ≡ k) xs
stands_in_all {A} column xs slice n k same le had =
    subst (Any (λ y. column y ≡ k)) (take_all n xs (subst (λ (ys : List A). length ys ≤ n) same le)) had

-- ---- counts

-- the greatest of some is one of them
greatest_of_four : (a b c d ab abc most : ℕ) → ab ≡ max a b → abc ≡ max ab c → most ≡ max abc d
    → (most ≡ a) ⊎ ((most ≡ b) ⊎ ((most ≡ c) ⊎ (most ≡ d)))
greatest_of_four a b c d ab abc most one two three = grind (arith, one, two, three)

greatest_of_three : (a b c ab most : ℕ) → ab ≡ max a b → most ≡ max ab c → (most ≡ a) ⊎ ((most ≡ b) ⊎ (most ≡ c))
greatest_of_three a b c ab most one two = grind (arith, one, two)

-- the most so far, or a count of the next moment
pub upper_more : (numbers : List Numbers) (n : ℕ) (x : Numbers) (old a b most : ℕ) → n < length numbers → x ≡ get_or numbers n x
    → a ≡ max old x.free → b ≡ max a x.resv → most ≡ max b x.used → IsUpper (take n numbers) old → IsUpper (take (n + 1) numbers) most
upper_more numbers n x old a b most lt is free resv used has = elim (greatest_of_four old x.free x.resv x.used a b most free resv used) [
  | inl same ↦ elim has [
    | inl one ↦ inl (same ∙ one)
    | inr some ↦ inr (some_still Shows numbers n x lt (subst (λ (m : ℕ). Any (λ y. (m ≡ y.free) ⊎ (m ≡ y.resv) ⊎ (m ≡ y.used))
        (take n numbers)) (sym same) some))
  ]
  | inr shows ↦ inr (some_now Shows numbers n x lt is shows)
]
  where
    Shows : Numbers → Type 0
    Shows y = (most ≡ y.free) ⊎ (most ≡ y.resv) ⊎ (most ≡ y.used)

pub lower_more : (numbers : List Numbers) (n : ℕ) (x : Numbers) (old a most : ℕ) → n < length numbers → x ≡ get_or numbers n x
    → a ≡ max old x.resv → most ≡ max a x.bare → IsLower (take n numbers) old → IsLower (take (n + 1) numbers) most
lower_more numbers n x old a most lt is resv bare has = elim (greatest_of_three old x.resv x.bare a most resv bare) [
  | inl same ↦ elim has [
    | inl one ↦ inl (same ∙ one)
    | inr some ↦ inr (some_still Shows numbers n x lt
        (subst (λ (m : ℕ). Any (λ y. (m ≡ y.resv) ⊎ (m ≡ y.bare)) (take n numbers)) (sym same) some))
  ]
  | inr shows ↦ inr (some_now Shows numbers n x lt is shows)
]
  where
    Shows : Numbers → Type 0
    Shows y = (most ≡ y.resv) ⊎ (most ≡ y.bare)

-- all are the first so many
pub upper_of_all : (numbers : List Numbers) (n most : ℕ) → length numbers ≤ n → IsUpper (take n numbers) most → IsUpper numbers most
upper_of_all numbers n most le has = subst (λ (list : List Numbers). IsUpper list most) (take_all n numbers le) has

pub lower_of_all : (numbers : List Numbers) (n most : ℕ) → length numbers ≤ n → IsLower (take n numbers) most → IsLower numbers most
lower_of_all numbers n most le has = subst (λ (list : List Numbers). IsLower list most) (take_all n numbers le) has

-- what the curves show with the quota
pub upper_or_quota : (quota : Option ℕ) (numbers : List Numbers) (count most : ℕ) → IsUpper numbers count
    → (most ≡ count) ⊎ IsNear quota count most → IsUpperOrQuota quota numbers most
upper_or_quota quota numbers count most is (inl same) = inl (subst (IsUpper numbers) (sym same) is)
upper_or_quota quota numbers count most is (inr near) = inr (count, is, near)
