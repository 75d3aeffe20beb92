-- Entries in order of their virtual pages.
use Rattle.std.proofs.Common.{◌≡◌, ℕ, ◌+◌, ◌<◌, ◌≤◌, Bool, true, false, cond, ◌&&◌, ◌==◌, List, [], ◌∷◌, None, refl, sym, subst, ◌∙◌}
use Rattle.std.proofs.Common.{arith}
use Rattle.std.specs.Prelude.{nat_lt, IsTrue, T}
use Rattle.std.specs.declared.cmp.Ordering.TheVariants.{Less, Equal, Greater}
use Rattle.std.specs.FinMap.{find, is_sorted}
use Rattle.std.specs.FinMap.Entries.{below_all}
use Rattle.std.specs.Ordering.{eq_by_cmp, is_lt, nat_cmp}
use Rattle.std.proofs.lemmas.Bool.{ltb-true}
use Rattle.std.proofs.lemmas.Bool.Decides.{nat_tests}

-- no page is below `low`, and each is above the one before it
abbrev pub Rises : (low : ℕ) → List (ℕ × ℕ) → Type 0
Rises low [] = 0 ≤ low
Rises low (e ∷ es) = (low ≤ e.0) × Rises (e.0 + 1) es

left_true : (a b : Bool) → T (a && b) → T a
left_true true b h = tt
left_true false b h = h

right_true : (a b : Bool) → T (a && b) → T b
right_true true b h = h
right_true false b h = absurd h

less : (x y : ℕ) → T (is_lt (nat_cmp x y)) → x < y
less x y h =
    elim (nat_lt x y) as (λ b. nat_lt x y ≡ b → T (is_lt (cond b Less (cond (x == y) Equal Greater))) → x < y) [
      | true ↦ λ e below. ltb-true x y e
      | false ↦ λ e below. absurd (not_less (x == y) below)
    ] refl h
  where
    not_less : (b : Bool) → T (is_lt (cond b Equal Greater)) → ⊥
    not_less true below = below
    not_less false below = below

rises_above : (x : ℕ) (es : List (ℕ × ℕ)) → T (below_all nat_cmp x es) → T (is_sorted nat_cmp es) → Rises (x + 1) es
rises_above x [] below sorted = omega arith
rises_above x (e ∷ es) below sorted =
    let above = less x e.0 (left_true _ _ below) in
    (omega arith, rises_above e.0 es (left_true _ _ sorted) (right_true _ _ sorted))

pub is_sorted-Rises : (es : List (ℕ × ℕ)) → IsTrue (is_sorted nat_cmp es) → Rises 0 es
is_sorted-Rises [] sorted = omega arith
is_sorted-Rises (e ∷ es) sorted =
    let all : T (is_sorted nat_cmp (e ∷ es)) = subst T (sym sorted) tt in
    (omega arith, rises_above e.0 es (left_true _ _ all) (right_true _ _ all))

tie : (v k : ℕ) → eq_by_cmp nat_cmp v k ≡ (v == k)
tie v k = grind (arith, nat_tests)

not_tied_above : (v k : ℕ) → v < k → eq_by_cmp nat_cmp v k ≡ false
not_tied_above v k above = tie v k ∙ grind (arith, nat_tests)

-- a page below all has no entry
pub find_none : (low : ℕ) (es : List (ℕ × ℕ)) (v : ℕ) → Rises low es → v < low → find nat_cmp v es ≡ None
find_none low [] v rises under = refl
find_none low (e ∷ es) v rises under =
    rw (not_tied_above v e.0 (omega (arith, rises.0)), find_none (e.0 + 1) es v rises.1 (omega (arith, rises.0))) refl
