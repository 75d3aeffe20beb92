-- Sums over the elements of a list.
use Rattle.std.proofs.Common.{◌≡◌, ℕ, zero, suc, ◌+◌, ◌<◌, ◌≤◌, List, [], ◌∷◌, length, get_or, take, refl, sym, ◌∙◌, ap, arith, add-one}
use Rattle.std.specs.Prelude.{nat_lt, Bool, true, false, cond, Option, Some, None, sum_by, count_by, filter_map, All, AllPairs, HoldsAt}
use Rattle.std.specs.List.{cons_option}
use Rattle.std.proofs.lemmas.Bool.{ltb-true, ltb-false}
use Rattle.std.proofs.lemmas.List.{take_all}
use Rattle.std.proofs.lemmas.List.Elements.{All-tail}
use Rattle.std.proofs.lemmas.List.Sums.{sum_by-cons, sum_by_more}
use Rattle.hp_base.specs.Numbers.{total}

module _ {X : Type 0} (f : X → ℕ) where
  -- some element of a sum that isn't nothing counts
  pub sum_somewhere : (xs : List X) → 0 < sum_by f xs → (k : ℕ) × (k < length xs) × HoldsAt (λ x. 0 < f x) xs k
  sum_somewhere [] some = absurd (omega arith)
  sum_somewhere (x ∷ xs) some =
      let all = sum_by-cons f x xs in
      elim (nat_lt 0 (f x)) as (λ b. nat_lt 0 (f x) ≡ b → (k : ℕ) × (k < length (x ∷ xs)) × HoldsAt (λ y. 0 < f y) (x ∷ xs) k) [
        | true ↦ λ here. (0, omega arith, λ d. ltb-true 0 (f x) here)
        | false ↦ λ here. (let rest = sum_somewhere xs (omega (arith, all, some, ltb-false 0 (f x) here)) in
            (suc rest.0, omega (arith, rest.1), λ d. rest.2 d))
      ] refl

  -- where each element counts once at most, and no two count, so does the list
  pub sum_at_most_one : (xs : List X) → All (λ x. f x ≤ 1) xs → AllPairs (λ x y. 0 < f x → 0 < f y → ⊥) xs → sum_by f xs ≤ 1
  sum_at_most_one [] each apart = omega arith
  sum_at_most_one (x ∷ xs) each apart =
      let all = sum_by-cons f x xs in
      let here = each 0 x (omega arith) in
      let rest = sum_at_most_one xs (All-tail (λ (x : X). f x ≤ 1) x xs each)
      (λ i j d lt within. apart (suc i) (suc j) d (omega (arith, lt)) (omega (arith, within))) in
      elim (nat_lt 0 (f x)) as (λ b. nat_lt 0 (f x) ≡ b → sum_by f (x ∷ xs) ≤ 1) [
        | true ↦ λ e. omega (arith, all, here, none (ltb-true 0 (f x) e))
        | false ↦ λ e. omega (arith, all, rest, ltb-false 0 (f x) e)
      ] refl
    where
      none : 0 < f x → sum_by f xs ≤ 0
      none counts =
          elim (nat_lt 0 (sum_by f xs)) as (λ b. nat_lt 0 (sum_by f xs) ≡ b → sum_by f xs ≤ 0) [
            | true ↦ λ e. (let at = sum_somewhere xs (ltb-true 0 (sum_by f xs) e) in
                absurd (apart 0 (suc at.0) x (omega arith) (omega (arith, at.1)) counts (at.2 x)))
            | false ↦ λ e. omega (arith, ltb-false 0 (sum_by f xs) e)
          ] refl

  sum_upto : (g : ℕ → ℕ) (xs : List X) (d : X) → ((k : ℕ) → k < length xs → f (get_or xs k d) ≡ g k) → (n : ℕ) → n ≤ length xs
      → sum_by f (take n xs) ≡ total n g
  unfolding total
  sum_upto g xs d each zero le = refl
  sum_upto g xs d each (suc n) le =
      let before = sum_upto g xs d each n (omega (arith, le)) in
      let more = sum_by_more f xs n d (omega (arith, le)) in
      let here = each n (omega (arith, le)) in
      let same : sum_by f (take (suc n) xs) ≡ sum_by f (take (n + 1) xs) = ap (λ (k : ℕ). sum_by f (take k xs)) (sym (add-one n)) in
      omega (arith, before, more, here, same)

  -- a sum over a list is one over its places
  pub sum_by-total : (g : ℕ → ℕ) (xs : List X) → ((k : ℕ) → k < length xs → HoldsAt (λ x. f x ≡ g k) xs k)
      → sum_by f xs ≡ total (length xs) g
  unfolding total
  sum_by-total g [] each = refl
  sum_by-total g (x ∷ xs) each =
      let whole : take (length (x ∷ xs)) (x ∷ xs) ≡ x ∷ xs = take_all (length (x ∷ xs)) (x ∷ xs) (omega arith) in
      sym (ap (λ (ys : List X). sum_by f ys) whole) ∙ sum_upto g (x ∷ xs) x (λ k within. each k within x) (length (x ∷ xs)) (omega arith)

-- whether there is a value, and it passes
abbrev pub passes : {Y : Type 0} → (Y → Bool) → Option Y → Bool
passes p None = false
passes p (Some y) = p y

-- of what h gives as many pass as elements give one that does
pub count_by-filter_map : {X Y : Type 0} (p : Y → Bool) (h : X → Option Y) (xs : List X)
    → count_by p (filter_map h xs) ≡ count_by (λ x. passes p (h x)) xs
count_by-filter_map p h [] = refl
count_by-filter_map {X} {Y} p h (x ∷ xs) =
    let all = sum_by-cons (λ (x : X). cond (passes p (h x)) 1 0) x xs in
    omega (arith, onto (h x), all, count_by-filter_map p h xs)
  where
    onto : (o : Option Y) → count_by p (cons_option o (filter_map h xs)) ≡ cond (passes p o) 1 0 + count_by p (filter_map h xs)
    onto None = omega arith
    onto (Some y) = sum_by-cons (λ (y : Y). cond (p y) 1 0) y (filter_map h xs)

-- where none passes none is counted
pub count_by_none : {X : Type 0} (p : X → Bool) (xs : List X) → ((x : X) → p x ≡ false) → count_by p xs ≡ 0
count_by_none p [] none = refl
count_by_none {X} p (x ∷ xs) none =
    let all = sum_by-cons (λ (x : X). cond (p x) 1 0) x xs in
    let here : cond {A = ℕ} (p x) 1 0 ≡ 0 = ap (λ (b : Bool). cond b 1 0) (none x) in
    omega (arith, all, here, count_by_none p xs none)
