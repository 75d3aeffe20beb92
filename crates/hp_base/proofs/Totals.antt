-- Sums of functions on numbers, and counts of members as sums.
use Rattle.std.proofs.Math.Nat.{suc-mul}
use Rattle.std.proofs.Common.{◌≡◌, ◌≢◌, ℕ, zero, suc, ◌+◌, ◌*◌, ◌<◌, ◌≤◌, refl, ap, sym, ◌∙◌, arith, inl, inr}
use Rattle.std.specs.Prelude.{Bool, true, false, cond, nat_lt}
use Rattle.std.proofs.lemmas.Bool.{ltb-true, ltb-false}
use Rattle.hp_base.specs.Numbers.{total, bit}
use Rattle.hp_base.specs.Indices.{count_below}
use Rattle.hp_base.proofs.Puts.{same_or_other}

-- two sums of equal terms
pub total_same : (n : ℕ) (f g : ℕ → ℕ) → ((j : ℕ) → j < n → g j ≡ f j) → total n g ≡ total n f
unfolding total
total_same zero f g h = refl
total_same (suc n) f g h =
    let a : total n g ≡ total n f = total_same n f g (λ j l. h j (omega arith)) in
    let b : g n ≡ f n = h n (omega arith) in
    omega arith

-- one term changes
pub total_change : (n k : ℕ) (f g : ℕ → ℕ) → k < n → ((j : ℕ) → j ≢ k → g j ≡ f j) → total n g + f k ≡ total n f + g k
unfolding total
total_change zero k f g l h = absurd (omega arith)
total_change (suc n) k f g l h = elim (same_or_other k n) [
  | inl e ↦ (let a : total n g ≡ total n f = total_same n f g (λ j l'. h j (omega arith)) in rw e (omega arith))
  | inr e ↦ (let a : total n g + f k ≡ total n f + g k = total_change n k f g (omega arith) h in
      let b : g n ≡ f n = h n (omega arith) in omega arith)
]

pub total_le : (n : ℕ) (f g : ℕ → ℕ) → ((j : ℕ) → g j ≤ f j) → total n g ≤ total n f
unfolding total
total_le zero f g h = omega arith
total_le (suc n) f g h =
    let a : total n g ≤ total n f = total_le n f g h in
    let b : g n ≤ f n = h n in
    omega arith

-- a sum of numbers of which none is above another is at most as many times that
pub total_few : (n : ℕ) (f : ℕ → ℕ) (most : ℕ) → ((j : ℕ) → f j ≤ most) → total n f ≤ n * most
unfolding total
total_few zero f most h = omega arith
total_few (suc n) f most h =
    let a : total n f ≤ n * most = total_few n f most h in
    let b : f n ≤ most = h n in
    let c : suc n * most ≡ n * most + most = suc-mul n most in
    omega arith

pub total_none : (n : ℕ) → total n (λ _. 0) ≡ 0
unfolding total
total_none zero = refl
total_none (suc n) = let a : total n (λ _. 0) ≡ 0 = total_none n in omega arith

-- a sum has each of its terms
pub total_has : (n k : ℕ) (f : ℕ → ℕ) → k < n → f k ≤ total n f
unfolding total
total_has zero k f l = absurd (omega arith)
total_has (suc n) k f l = elim (same_or_other k n) [
  | inl e ↦ rw e (omega arith)
  | inr e ↦ (let a : f k ≤ total n f = total_has n k f (omega arith) in omega arith)
]

-- some term of a sum that isn't nothing is something
pub total_somewhere : (n : ℕ) (f : ℕ → ℕ) → 0 < total n f → (k : ℕ) × (k < n) × (0 < f k)
unfolding total
total_somewhere zero f some = absurd (omega arith)
total_somewhere (suc n) f some =
    elim (nat_lt 0 (f n)) as (λ b. nat_lt 0 (f n) ≡ b → (k : ℕ) × (k < suc n) × (0 < f k)) [
      | true ↦ λ e. (n, omega arith, ltb-true 0 (f n) e)
      | false ↦ λ e. (let rest = total_somewhere n f (omega (arith, some, ltb-false 0 (f n) e)) in (rest.0, omega (arith, rest.1), rest.2))
    ] refl

pub cond_bit : (b : Bool) → cond b 1 0 ≡ bit b
cond_bit true = refl
cond_bit false = refl

-- a number of members is a sum
pub count_below-total : (p : ℕ → Bool) (n : ℕ) → count_below p n ≡ total n (λ k. bit (p k))
unfolding count_below total
count_below-total p zero = refl
count_below-total p (suc n) =
    let rest = count_below-total p n in
    let here = cond_bit (p n) in
    omega arith

bit_true : (b : Bool) → 0 < bit b → b ≡ true
bit_true true some = refl
bit_true false some = absurd (omega (arith, some))

-- some number of a count that isn't nothing is a member
pub count_below_somewhere : (p : ℕ → Bool) (n : ℕ) → 0 < count_below p n → (k : ℕ) × (k < n) × (p k ≡ true)
count_below_somewhere p n some =
    let at = total_somewhere n (λ k. bit (p k)) (omega (arith, some, count_below-total p n)) in
    (at.0, at.1, bit_true (p at.0) at.2)

-- a set that has a number isn't empty
pub count_below_has : (p : ℕ → Bool) (k n : ℕ) → k < n → p k ≡ true → 0 < count_below p n
count_below_has p k n l e =
    let has = total_has n k (λ j. bit (p j)) l in
    let one : bit (p k) ≡ 1 = ap bit e in
    let all = count_below-total p n in
    omega arith

-- one number changes
pub count_below-change : (p q : ℕ → Bool) (k n : ℕ) → k < n → ((j : ℕ) → j ≢ k → q j ≡ p j)
    → count_below q n + bit (p k) ≡ count_below p n + bit (q k)
count_below-change p q k n l same =
    let a = total_change n k (λ j. bit (p j)) (λ j. bit (q j)) l (λ j d. ap bit (same j d)) in
    let b = count_below-total p n in
    let c = count_below-total q n in
    omega arith

pub total_add : (n : ℕ) (f g h : ℕ → ℕ) → ((j : ℕ) → h j ≡ f j + g j) → total n h ≡ total n f + total n g
unfolding total
total_add zero f g h e = refl
total_add (suc n) f g h e =
    let a : total n h ≡ total n f + total n g = total_add n f g h e in
    let b : h n ≡ f n + g n = e n in
    omega arith

-- the order of two sums doesn't count
pub exchange : (n m : ℕ) (h : ℕ → ℕ → ℕ) → total n (λ t. total m (λ f. h t f)) ≡ total m (λ f. total n (λ t. h t f))
unfolding total
exchange zero m h = sym (total_none m)
exchange (suc n) m h =
    let a : total n (λ t. total m (λ f. h t f)) ≡ total m (λ f. total n (λ t. h t f)) = exchange n m h in
    let b : total m (λ f. total n (λ t. h t f) + h n f) ≡ total m (λ f. total n (λ t. h t f)) + total m (λ f. h n f) =
    total_add m (λ f. total n (λ t. h t f)) (λ f. h n f) _ (λ f. refl) in
    omega arith

bit_at_most : (b : Bool) → bit b ≤ 1
bit_at_most true = omega arith
bit_at_most false = omega arith

bit_zero : (b : Bool) → (b ≡ true → ⊥) → bit b ≡ 0
bit_zero true h = absurd (h refl)
bit_zero false h = refl

few : (n : ℕ) (p : ℕ → Bool) → ((t u : ℕ) → p t ≡ true → p u ≡ true → t ≡ u) → total n (λ t. bit (p t)) ≤ 1
unfolding total
few zero p one = omega arith
few (suc n) p one = last (p n) (few n p one) refl
  where
    last : (w : Bool) → total n (λ t. bit (p t)) ≤ 1 → p n ≡ w → total n (λ t. bit (p t)) + bit (p n) ≤ 1
    last true h d =
        let a : total n (λ t. bit (p t)) ≡ 0 =
        total_same n (λ _. 0) (λ t. bit (p t))
        (λ j l. bit_zero (p j) (λ q. (let e : j ≡ n = one j n q d in absurd (omega arith)))) ∙ total_none n in
        let b = bit_at_most (p n) in
        omega arith
    last false h d = (let b : bit (p n) ≡ 0 = ap bit d in omega arith)

-- of tests of which one passes at most, and only where v holds
pub at_most_one : (n : ℕ) (p : ℕ → Bool) (v : Bool) → ((t : ℕ) → p t ≡ true → v ≡ true)
    → ((t u : ℕ) → p t ≡ true → p u ≡ true → t ≡ u) → total n (λ t. bit (p t)) ≤ bit v
at_most_one n p v h one = found v refl
  where
    none : v ≡ false → (t : ℕ) → bit (p t) ≡ 0
    none d t = bit_zero (p t) (λ q. (let e : v ≡ true = h t q in let x : false ≡ true = sym d ∙ e in absurd (cc)))

    found : (w : Bool) → v ≡ w → total n (λ t. bit (p t)) ≤ bit v
    found false d =
        (let a : total n (λ t. bit (p t)) ≡ 0 = total_same n (λ _. 0) (λ t. bit (p t)) (λ j l. none d j)
        ∙ total_none n in omega arith)
    found true d = (let a : total n (λ t. bit (p t)) ≤ 1 = few n p one in let b : bit v ≡ 1 = ap bit d in omega arith)
