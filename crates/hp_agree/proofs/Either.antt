-- Facts of which one holds or the other.
use Rattle.std.proofs.Common.{◌≡◌, ℕ, zero, suc, ◌<◌, ◌≤◌, ◌⊎◌, true, false, List, length, get_or, inl, inr, sym, ◌∙◌, subst, arith}
use Rattle.std.specs.Prelude.{All, ℤ}
use Rattle.std.specs.Ordering.{int_eq}
use Rattle.std.proofs.lemmas.Bool.{cases_Bool, cases_eq, cases_lt, false≢true}
use Rattle.std.proofs.lemmas.Bool.Decides.{Decides-int_eq}
use Rattle.std.proofs.lemmas.List.Elements.{All-from_get_or}

-- one of the two holds, and not both
pub record IsEither (A B : Type 0) : Type 0 where
  pub one : A ⊎ B
  pub alone : A → B → ⊥

-- so the other holds exactly where the one doesn't
pub other_of : {A B : Type 0} → IsEither A B → ((A → ⊥) → B) × (B → A → ⊥)
other_of {A} {B} either = (λ not. by either.one not, λ b a. either.alone a b)
  where
    by : A ⊎ B → (A → ⊥) → B
    by (inl a) not = absurd (not a)
    by (inr b) not = b

-- and the one, where the other doesn't
pub one_of : {A B : Type 0} → IsEither A B → (B → ⊥) → A
one_of {A} {B} either not = by either.one
  where
    by : A ⊎ B → A
    by (inl a) = a
    by (inr b) = absurd (not b)

-- the same of facts that say the same
pub turned : {A B C D : Type 0} → (A → C) → (C → A) → (B → D) → (D → B) → IsEither A B → IsEither C D
turned {A} {B} {C} {D} there back to from either = record { one = by either.one; alone = λ c d. either.alone (back c) (from d) }
  where
    by : A ⊎ B → C ⊎ D
    by (inl a) = inl (there a)
    by (inr b) = inr (to b)

-- two facts hold, or one doesn't
pub both : {A B C D : Type 0} → IsEither A B → IsEither C D → IsEither (A × C) (B ⊎ D)
both {A} {B} {C} {D} first second = record { one = by first.one second.one; alone = apart }
  where
    by : A ⊎ B → C ⊎ D → (A × C) ⊎ (B ⊎ D)
    by (inl a) (inl c) = inl (a, c)
    by (inl a) (inr d) = inr (inr d)
    by (inr b) rest = inr (inl b)

    apart : A × C → B ⊎ D → ⊥
    apart (a, c) (inl b) = first.alone a b
    apart (a, c) (inr d) = second.alone c d

-- each number below a bound passes, or some doesn't
pub all_below : (P : ℕ → Type 0) → ((n : ℕ) → P n ⊎ (P n → ⊥)) → (m : ℕ)
    → IsEither ((n : ℕ) → n < m → P n) ((n : ℕ) × ((n < m) × (P n → ⊥)))
all_below P test zero =
    record { one = inl (λ n below. absurd (omega (arith, below))); alone = λ all found. found.1.1 (all found.0 found.1.0) }
all_below P test (suc m) =
    record { one = by (all_below P test m).one (test m); alone = λ all found. found.1.1 (all found.0 found.1.0) }
  where
    below : ((n : ℕ) → n < m → P n) → P m → (n : ℕ) → n < suc m → (n ≡ m) ⊎ (n ≡ m → ⊥) → P n
    below all here n less (inl same) = subst P (sym same) here
    below all here n less (inr other) = all n (omega (arith, less, other))

    by : ((n : ℕ) → n < m → P n) ⊎ ((n : ℕ) × ((n < m) × (P n → ⊥))) → P m ⊎ (P m → ⊥)
        → ((n : ℕ) → n < suc m → P n) ⊎ ((n : ℕ) × ((n < suc m) × (P n → ⊥)))
    by (inl all) (inl here) = inl (λ n less. below all here n less (cases_eq n m))
    by (inl all) (inr not) = inr (m, (omega arith, not))
    by (inr found) rest = inr (found.0, (omega (arith, found.1.0), found.1.1))

-- each element passes, or that at some place doesn't
pub all_at : {X : Type 0} (P : X → Type 0) (d : X) → ((x : X) → P x ⊎ (P x → ⊥)) → (xs : List X)
    → IsEither (All P xs) ((n : ℕ) × ((n < length xs) × (P (get_or xs n d) → ⊥)))
all_at P d test xs =
    turned (λ each. All-from_get_or P xs d each) (λ all n within. all n d within) (λ found. found) (λ found. found)
    (all_below (λ n. P (get_or xs n d)) (λ n. test (get_or xs n d)) (length xs))

-- one number is less than another, or isn't
pub less_or_not : (m n : ℕ) → (m < n) ⊎ (m < n → ⊥)
less_or_not m n = elim (cases_lt m n) [
  | inl less ↦ inl less
  | inr more ↦ inr (λ less. omega (arith, less, more))
]

-- one is at most another, or above it
pub within_or_above : (m n : ℕ) → IsEither (m ≤ n) (n < m)
within_or_above m n = record { one = by (cases_lt n m); alone = λ within above. omega (arith, within, above) }
  where
    by : (n < m) ⊎ (m ≤ n) → (m ≤ n) ⊎ (n < m)
    by (inl above) = inr above
    by (inr within) = inl within

-- two integers are one, or they differ
pub same_or_other : (y z : ℤ) → IsEither (y ≡ z) (y ≡ z → ⊥)
same_or_other y z = record { one = by (cases_Bool (int_eq y z)); alone = λ same other. other same }
  where
    by : (int_eq y z ≡ true) ⊎ (int_eq y z ≡ false) → (y ≡ z) ⊎ (y ≡ z → ⊥)
    by (inl true_is) = inl ((Decides-int_eq y z).0 true_is)
    by (inr false_is) = inr (λ same. false≢true (sym false_is ∙ (Decides-int_eq y z).1 same))
