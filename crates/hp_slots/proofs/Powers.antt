-- A number with one bit is a power of two, and a mask is the remainder by it.
use Rattle.std.proofs.Common.{◌≡◌, ℕ, zero, suc, ◌+◌, ◌-◌, ◌/◌, ◌%◌, ◌^◌, ◌≤◌, refl, sym, ap, ◌∙◌, subst, arith, bit_and, count_ones}
use Rattle.std.specs.Prelude.{true}
use Rattle.std.specs.Int.{is_power_of_two}
use Rattle.std.proofs.lemmas.Bool.{eqb-true}
use Rattle.std.proofs.lemmas.Nat.{and_mask, div-add-mod', ones_cat, ones_le_self, zero_from_ones, pow-add}

power_within : (d n : ℕ) → n ≤ d → count_ones n ≡ 1 → (k : ℕ) × (n ≡ 2 ^ k)
power_within zero n small one = absurd (omega (arith, ones_le_self n, one, small))
power_within (suc d) n small one = by (λ within half. power_within d (n / 2) within half) (count_ones (n / 2)) refl
  where
    split : count_ones n ≡ count_ones (n / 2) + count_ones (n % 2)
    split = ap count_ones (sym (div-add-mod' n 2)) ∙ ones_cat 1 (n / 2) (n % 2) (omega arith)

    by : (n / 2 ≤ d → count_ones (n / 2) ≡ 1 → (k : ℕ) × (n / 2 ≡ 2 ^ k)) → (m : ℕ) → count_ones (n / 2) ≡ m → (k : ℕ) × (n ≡ 2 ^ k)
    by below zero e = (0, omega (arith, zero_from_ones (n / 2) e, ones_le_self n, one))
    by below (suc m) e =
        let even : n % 2 ≡ 0 = zero_from_ones (n % 2) (omega (arith, split, one, e)) in
        let half = below (omega (arith, small, ones_le_self n, one)) (omega (arith, split, one, e)) in
        (half.0 + 1, omega (arith, half.1, even, pow-add 2 half.0 1))

-- so the mask below it gives the remainder
pub mask_is_remainder : (n d : ℕ) → true ≡ is_power_of_two d → bit_and n (d - 1) ≡ n % d
mask_is_remainder n d power =
    let k = power_within d d (omega arith) (eqb-true (count_ones d) 1 (sym power)) in
    subst (λ (p : ℕ). bit_and n (p - 1) ≡ n % p) (sym k.1) (and_mask n k.0)
