-- The k-th number of a set, and how many numbers of the set are below it.
use Rattle.std.proofs.Common.{◌≡◌, ℕ, zero, suc, ◌+◌, ◌<◌, ◌≤◌, refl, sym, ap, arith, inl, inr, subst}
use Rattle.std.specs.Prelude.{◌==◌, Bool, true, false, ◌&&◌, cond, if◌then◌else◌}
use Rattle.std.proofs.lemmas.Bool.{cases_lt, eq-eqb, eqb-true, eqb-false}
use Rattle.hp_base.specs.Indices.{count_below}
use Rattle.hp_base.proofs.Counting.{count_below_wider}

-- the k-th number of the set below the bound, counted from 0
pub pick : (ℕ → Bool) → (bound k : ℕ) → ℕ
pick set zero k = 0
pick set (suc n) k = if set n && (count_below set n == k) then n else pick set n k

-- it is in the set, below the bound, and k numbers of the set are below it
pub record IsPicked (set : ℕ → Bool) (bound k x : ℕ) : Type 0 where
  pub below : x < bound
  pub there : set x ≡ true
  pub rank : count_below set x ≡ k

later : (set : ℕ → Bool) (n k x : ℕ) → IsPicked set n k x → IsPicked set (suc n) k x
later set n k x one =
    let within = one.below in
    record { below = omega (arith, within); there = one.there; rank = one.rank }

pub picked : (set : ℕ → Bool) (bound k : ℕ) → k < count_below set bound → IsPicked set bound k (pick set bound k)
unfolding pick count_below
picked set zero k few = absurd (omega (arith, few))
picked set (suc n) k few =
    by (set n) refl (count_below set n == k) refl (λ less. later set n k (pick set n k) (picked set n k less))
  where
    by : (b : Bool) → set n ≡ b → (e : Bool) → (count_below set n == k) ≡ e
        → (k < count_below set n → IsPicked set (suc n) k (pick set n k)) → IsPicked set (suc n) k (if b && e then n else pick set n k)
    by true is true same earlier = record { below = omega arith; there = is; rank = eqb-true (count_below set n) k same }
    by true is false other earlier = elim (cases_lt k (count_below set n)) [
      | inl less ↦ earlier less
      | inr over ↦ (
          let one : ◌≡◌ {A = ℕ} (cond (set n) 1 0) 1 = ap (λ (c : Bool). cond c 1 0) is in
          absurd (eqb-false (count_below set n) k other (omega (arith, over, one, few))))
    ]
    by false is e same earlier = (
        let none : ◌≡◌ {A = ℕ} (cond (set n) 1 0) 0 = ap (λ (c : Bool). cond c 1 0) is in
        earlier (omega (arith, none, few)))

-- fewer numbers of the set are below one of them than below the bound
pub rank_below : (set : ℕ → Bool) (bound x : ℕ) → x < bound → set x ≡ true → count_below set x < count_below set bound
unfolding count_below
rank_below set bound x below there =
    let one : ◌≡◌ {A = ℕ} (cond (set x) 1 0) 1 = ap (λ (c : Bool). cond c 1 0) there in
    let wider : count_below set x + cond (set x) 1 0 ≤ count_below set bound = count_below_wider set (suc x) bound (omega (arith, below)) in
    omega (arith, one, wider)

-- so each number of the set is found by its rank
pub pick_rank : (set : ℕ → Bool) (bound x : ℕ) → x < bound → set x ≡ true → pick set bound (count_below set x) ≡ x
unfolding pick
pick_rank set zero x below there = absurd (omega (arith, below))
pick_rank set (suc n) x below there = elim (cases_lt x n) [
  | inl earlier ↦ (
      let less = rank_below set n x earlier there in
      by (set n) (count_below set n == count_below set x) refl
      (λ same. eqb-true (count_below set n) (count_below set x) same) less (pick_rank set n x earlier there))
  | inr over ↦ (let is : x ≡ n = omega (arith, over, below) in last is)
]
  where
    by : (b e : Bool) → (count_below set n == count_below set x) ≡ e
        → (e ≡ true → count_below set n ≡ count_below set x) → count_below set x < count_below set n
        → pick set n (count_below set x) ≡ x → (if b && e then n else pick set n (count_below set x)) ≡ x
    by true true is same less rest = (let equal = same refl in absurd (omega (arith, equal, less)))
    by true false is same less rest = rest
    by false e is same less rest = rest

    found : (b e : Bool) → b ≡ true → e ≡ true → (if b && e then n else pick set n (count_below set x)) ≡ n
    found true true is same = refl
    found true false is same = (let z : false ≡ true = same in absurd (cc))
    found false e is same = (let z : false ≡ true = is in absurd (cc))

    last : x ≡ n → (if set n && (count_below set n == count_below set x) then n else pick set n (count_below set x)) ≡ x
    last is =
        subst (λ (y : ℕ). (if set n && (count_below set n == count_below set x) then n else pick set n (count_below set x)) ≡ y) (sym is)
        (found (set n) (count_below set n == count_below set x) (subst (λ (y : ℕ). set y ≡ true) is there)
        (eq-eqb (count_below set n) (count_below set x) (ap (count_below set) (sym is))))
