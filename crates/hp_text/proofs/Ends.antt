-- Where a line ends: at the first byte 10.
use Rattle.std.proofs.Common.{◌≡◌, ℕ, zero, suc, ◌<◌, ◌≤◌, true, false, List, [], ◌∷◌, ◌++◌, length, take, refl, ap, subst, ◌∙◌, arith}
use Rattle.std.specs.Prelude.{Bool, not, ◌==◌, slice_index}
use Rattle.std.specs.List.{list_all}
use Rattle.std.proofs.lemmas.Bool.{and_parts, and_from}
use Rattle.std.proofs.lemmas.List.Folds.{list_all-append}
use Rattle.hp_text.specs.Traces.{HasNoEnd, inside}

pub HasNoEnd-append : (a b : List ℕ) → HasNoEnd a → HasNoEnd b → HasNoEnd (a ++ b)
HasNoEnd-append a b p q = list_all-append inside a b ∙ and_from _ _ p q

parts : (x : ℕ) (a : List ℕ) → HasNoEnd (x ∷ a) → (inside x ≡ true) × HasNoEnd a
parts x a p = and_parts (inside x) (list_all inside a) p

not_end : (x : ℕ) (a : List ℕ) → 10 ≡ x → HasNoEnd (x ∷ a) → ⊥
not_end x a is p =
    let other : inside 10 ≡ true = ap inside is ∙ (parts x a p).0 in
    absurd (false_true other)
  where
    false_true : false ≡ true → ⊥
    false_true e = cc

-- a line and its end are known by their text
pub line_is : (a b xs ys : List ℕ) → HasNoEnd a → HasNoEnd b → a ++ (10 ∷ xs) ≡ b ++ (10 ∷ ys) → (a ≡ b) × (xs ≡ ys)
line_is [] [] xs ys p q e = (refl, cc)
line_is [] (y ∷ b) xs ys p q e =
    let first : 10 ≡ y = cc in
    absurd (not_end y b first q)
line_is (x ∷ a) [] xs ys p q e =
    let first : 10 ≡ x = cc in
    absurd (not_end x a first p)
line_is (x ∷ a) (y ∷ b) xs ys p q e =
    let first : x ≡ y = cc in
    let others : a ++ (10 ∷ xs) ≡ b ++ (10 ∷ ys) = cc in
    let more = line_is a b xs ys (parts x a p).1 (parts y b q).1 others in
    (rw (first, more.0) refl, more.1)

-- bytes without an end are no longer than a line that they begin with
pub no_line_within : (a xs b ys : List ℕ) → HasNoEnd a → length b < length a → a ++ xs ≡ b ++ (10 ∷ ys) → ⊥
no_line_within [] xs b ys p lt e = omega arith
no_line_within (x ∷ a) xs [] ys p lt e =
    let first : 10 ≡ x = cc in
    not_end x a first p
no_line_within (x ∷ a) xs (y ∷ b) ys p lt e =
    let others : a ++ xs ≡ b ++ (10 ∷ ys) = cc in
    no_line_within a xs b ys (parts x a p).1 (omega arith) others

-- where no place before has an end, no line ends
pub none_before : (xs : List ℕ) (end : ℕ) → ((k : ℕ) → 0 ≤ k → k < end → (slice_index xs k == 10) ≡ true → ⊥) → HasNoEnd (take end xs)
none_before [] end h = by end
  where
    by : (n : ℕ) → HasNoEnd (take n [])
    by zero = refl
    by (suc n) = refl
none_before (x ∷ xs) zero h = refl
none_before (x ∷ xs) (suc end) h =
    let here : (x == 10) ≡ false = no_test (x == 10) (λ e. h 0 (omega arith) (omega arith) e) in
    and_from _ _ (ap not here) (none_before xs end (λ k low lt e. h (suc k) (omega arith) (omega (arith, lt)) e))
  where
    no_test : (b : Bool) → (b ≡ true → ⊥) → b ≡ false
    no_test false h = refl
    no_test true h = absurd (h refl)

pub none_at_all : (xs : List ℕ) → ((k : ℕ) → 0 ≤ k → k < length xs → (slice_index xs k == 10) ≡ true → ⊥) → HasNoEnd xs
none_at_all xs h = subst (λ (x : List ℕ). HasNoEnd x) (take_all xs) (none_before xs (length xs) h)
  where
    take_all : (xs : List ℕ) → take (length xs) xs ≡ xs
    take_all [] = refl
    take_all (x ∷ xs) = ap (λ (ys : List ℕ). x ∷ ys) (take_all xs)
