-- Sums over files, file by file.
use Rattle.std.proofs.Common.{◌≡◌, ℕ, ◌+◌, ◌*◌, ◌≤◌, refl, ◌∙◌, ap, arith, add-one}
use Rattle.hp_base.specs.Numbers.{total}
use Rattle.hp_base.specs.declared.limits.TheConstants.{LIMIT}

-- a sum of no terms is 0
pub total_zero : (f : ℕ → ℕ) → 0 ≡ total 0 f
unfolding total
total_zero f = refl

-- one term more
pub total_next : (f : ℕ → ℕ) (n k x y : ℕ) → k ≡ n → x ≡ total n f → y ≡ f k → x + y ≡ total (n + 1) f
unfolding total
total_next f n k x y same sum term =
    let a : y ≡ f n = term ∙ ap f same in
    let b : total (n + 1) f ≡ total n f + f n = ap (λ (m : ℕ). total m f) (add-one n) in
    omega (arith, sum, a, b)

-- a sum of terms within the limit is within as many limits
pub few_next : (n x y : ℕ) → x ≤ LIMIT * n → y ≤ LIMIT → x + y ≤ LIMIT * (n + 1)
few_next n x y few more = omega (arith, few, more)
