-- What one place does to a count.
use Rattle.std.proofs.Common.{◌≡◌, ◌≢◌, ℕ, zero, suc, ◌+◌, ◌<◌, Bool, cond, arith, inl, inr}
use Rattle.hp_base.specs.Indices.{count_below}
use Rattle.hp_base.proofs.Counting.{count_below-ext}
use Rattle.hp_base.proofs.Puts.{same_or_other}

-- two sets that differ at k alone
pub count_below-at : (p q : ℕ → Bool) (n k : ℕ) → k < n → ((j : ℕ) → j ≢ k → q j ≡ p j)
    → count_below q n + cond (p k) 1 0 ≡ count_below p n + cond (q k) 1 0
unfolding count_below
count_below-at p q zero k within others = absurd (omega arith)
count_below-at p q (suc n) k within others = elim (same_or_other k n) [
  | inl e ↦ (let a : count_below q n ≡ count_below p n =
      count_below-ext q p n (λ j below. others j (λ same. omega (arith, same, below, e))) in rw e (omega arith))
  | inr h ↦ (let a : count_below q n + cond (p k) 1 0 ≡ count_below p n + cond (q k) 1 0 = count_below-at p q n k
      (omega (arith, h)) others in
      rw (others n (λ same. h (omega (arith, same)))) (omega arith))
]
