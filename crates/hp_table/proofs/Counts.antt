-- How many entries pass a test, as a count over pages.
use Rattle.std.proofs.Common.{◌≡◌, ◌≢◌, ℕ, ◌+◌, ◌<◌, List, [], ◌∷◌, refl, sym, ap, arith}
use Rattle.std.specs.Prelude.{Bool, false, cond, Option, Some, All, count_by}
use Rattle.std.specs.FinMap.{find}
use Rattle.std.specs.Ordering.{nat_cmp}
use Rattle.std.proofs.lemmas.Bool.Decides.{nat_tests}
use Rattle.std.proofs.lemmas.List.Elements.{All-head, All-tail}
use Rattle.std.proofs.lemmas.List.Sums.{sum_by-cons}
use Rattle.hp_base.specs.Numbers.{bit}
use Rattle.hp_base.specs.Indices.{count_below}
use Rattle.hp_base.proofs.Counting.{count_below_none}
use Rattle.hp_base.proofs.Sums.{passes}
use Rattle.hp_base.proofs.Totals.{count_below-change, cond_bit}
use Rattle.hp_table.proofs.PageTable.{Rises, find_none}

find_first : (e : ℕ × ℕ) (es : List (ℕ × ℕ)) → find nat_cmp e.0 (e ∷ es) ≡ Some e.1
find_first e es = grind (arith, nat_tests)

find_other : (e : ℕ × ℕ) (es : List (ℕ × ℕ)) (v : ℕ) → v ≢ e.0 → find nat_cmp v (e ∷ es) ≡ find nat_cmp v es
find_other e es v other = grind (arith, nat_tests)

-- in entries whose pages rise, all below n, as many pass as pages below n whose entry does
pub count_by-find : (q : ℕ → ℕ → Bool) (n low : ℕ) (es : List (ℕ × ℕ)) → Rises low es → All (λ e. e.0 < n) es
    → count_by (λ e. q e.0 e.1) es ≡ count_below (λ v. passes (q v) (find nat_cmp v es)) n
count_by-find q n low [] rises below = sym (count_below_none (λ v. false) n (λ k l. refl))
count_by-find q n low (e ∷ es) rises below =
    let found : ℕ → List (ℕ × ℕ) → Bool = λ v es. passes (q v) (find nat_cmp v es) in
    let rest = count_by-find q n (e.0 + 1) es rises.1 (All-tail (λ (e : ℕ × ℕ). e.0 < n) e es below) in
    let one = sum_by-cons (λ (e : ℕ × ℕ). cond (q e.0 e.1) 1 0) e es in
    let old : bit (found e.0 es) ≡ 0 = ap (λ (o : Option ℕ). bit (passes (q e.0) o)) (find_none (e.0 + 1) es e.0 rises.1 (omega arith)) in
    let new : bit (found e.0 (e ∷ es)) ≡ bit (q e.0 e.1) = ap (λ (o : Option ℕ). bit (passes (q e.0) o)) (find_first e es) in
    let change = count_below-change (λ v. found v es) (λ v. found v (e ∷ es)) e.0 n (All-head (λ (e : ℕ × ℕ). e.0 < n) e es below)
    (λ v other. ap (λ (o : Option ℕ). passes (q v) o) (find_other e es v other)) in
    omega (arith, rest, one, old, new, change, cond_bit (q e.0 e.1))
