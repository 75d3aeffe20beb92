-- A remainder as the top of a product with an inverse.
use Rattle.std.proofs.Common.{◌≡◌, ℕ, ◌+◌, ◌-◌, ◌*◌, ◌/◌, ◌%◌, ◌^◌, ◌<◌, ◌≤◌, sym, ap, ◌∙◌, arith}
use Rattle.std.proofs.lemmas.Nat.{mul-le, div-mul-add, mod-mul-add, div-add-mod', mul-mod_first}
use Rattle.std.proofs.Math.Nat.{mod-lt}

-- with n = q d + s and m d = 2^64 + e the product m n has q above 2^64, and below it what is d times s 2^64 and little more
from_parts : (m d e q s : ℕ) → m * d ≡ 2 ^ 64 + e → e ≤ d → 1 ≤ d → d ≤ 64 → s < d → q * d + s < 2 ^ 32
    → ((m * (q * d + s)) % 2 ^ 64) * d / 2 ^ 64 ≡ s
from_parts m d e q s product small one few below short =
    let qe : q * e ≤ q * d = mul-le q e q d (omega arith) small in
    let se : s * e ≤ 64 * 64 = mul-le s e 64 64 (omega (arith, below, few)) (omega (arith, small, few)) in
    let qed : (q * e) * d ≤ 2 ^ 32 * 64 = mul-le (q * e) d (2 ^ 32) 64 (omega (arith, qe, short)) few in
    let many : 2 ^ 58 ≤ m = omega (arith, product, mul-le m d m 64 (omega arith) few) in
    let ms : m * s + m ≤ m * d = omega (arith, mul-le m (s + 1) m d (omega arith) (omega (arith, below))) in
    let whole : m * (q * d + s) ≡ q * 2 ^ 64 + (q * e + m * s) = omega (arith, ap (λ x. q * x) product) in
    let low : q * e + m * s < 2 ^ 64 = omega (arith, ms, product, many, qe, short, small, few) in
    let fraction : (m * (q * d + s)) % 2 ^ 64 ≡ q * e + m * s = ap (λ n. n % 2 ^ 64) whole ∙ mod-mul-add q (2 ^ 64) (q * e + m * s) low in
    let top : (q * e + m * s) * d ≡ s * 2 ^ 64 + ((q * e) * d + s * e) = omega (arith, ap (λ x. s * x) product) in
    ap (λ n. n * d / 2 ^ 64) fraction ∙ (ap (λ n. n / 2 ^ 64) top ∙ div-mul-add s (2 ^ 64) ((q * e) * d + s * e) (omega (arith, qed, se)))

-- the remainder of a number of 32 bits by one of at most 64
pub remainder_at : (n d : ℕ) → 1 ≤ d → d ≤ 64 → n < 2 ^ 32
    → (((2 ^ 64 - 1) / d + 1) % 2 ^ 64 * n) % 2 ^ 64 * d / 2 ^ 64 ≡ n % d
remainder_at n d one few short =
    let k = (2 ^ 64 - 1) / d in
    let r = (2 ^ 64 - 1) % d in
    let whole : k * d + r ≡ 2 ^ 64 - 1 = div-add-mod' (2 ^ 64 - 1) d in
    let left : r < d = mod-lt (2 ^ 64 - 1) (omega (arith, one)) in
    let parts : n / d * d + n % d ≡ n = div-add-mod' n d in
    let below : n % d < d = mod-lt n (omega (arith, one)) in
    let fraction : ((k + 1) % 2 ^ 64 * n) % 2 ^ 64 ≡ ((k + 1) * n) % 2 ^ 64 = mul-mod_first (k + 1) n (2 ^ 64) in
    let product : (k + 1) * d ≡ 2 ^ 64 + (d - 1 - r) = omega (arith, whole, left) in
    ap (λ x. x * d / 2 ^ 64) (fraction ∙ ap (λ x. ((k + 1) * x) % 2 ^ 64) (sym parts))
    ∙ from_parts (k + 1) d (d - 1 - r) (n / d) (n % d) product (omega arith) one few below (omega (arith, parts, short))
