-- A list read as a function of numbers: what one write to the list does to it.
use Rattle.std.proofs.Common.{◌≡◌, ◌≢◌, ℕ, ◌<◌, List, length, get_or, set, refl, sym, ◌∙◌, ap, arith, inl, inr}
use Rattle.std.proofs.Math.Path.{fun_ext}
use Rattle.std.specs.Prelude.{true, false, Option, Some, None, slice_get, is_some}
use Rattle.std.proofs.lemmas.Grind.{elements}
use Rattle.std.proofs.lemmas.List.{get_or-set_same}
use Rattle.std.proofs.lemmas.Option.{slice_get_within}
use Rattle.hp_base.specs.Numbers.{put}
use Rattle.hp_base.proofs.Puts.{put_same, put_other, same_or_other}

other : {A : Type 0} (d : A) (xs : List A) (i j : ℕ) (y : A) → j ≢ i → get_or (set xs i y) j d ≡ get_or xs j d
other d xs i j y h = grind (arith, elements)

-- one place changes
pub at_set : {A B : Type 0} (v : A → B) (d : A) (xs : List A) (i : ℕ) (y : A) → i < length xs
    → ◌≡◌ {A = ℕ → B} (λ j. v (get_or (set xs i y) j d)) (put (λ j. v (get_or xs j d)) i (v y))
at_set {A} {B} v d xs i y l = fun_ext (λ j. elim (same_or_other j i) [
  | inl e ↦ ap (λ (m : ℕ). v (get_or (set xs i y) m d)) e
      ∙ (ap v (get_or-set_same xs i y d l)
      ∙ sym (ap (put (λ (k : ℕ). v (get_or xs k d)) i (v y)) e ∙ put_same (λ (k : ℕ). v (get_or xs k d)) i (v y)))
  | inr e ↦ ap v (other d xs i j y e) ∙ sym (put_other (λ (k : ℕ). v (get_or xs k d)) i (v y) j e)
])

-- a write that can't be seen
pub at_same : {A B : Type 0} (v : A → B) (d : A) (xs : List A) (i : ℕ) (y : A) → i < length xs → v y ≡ v (get_or xs i d)
    → ◌≡◌ {A = ℕ → B} (λ j. v (get_or (set xs i y) j d)) (λ j. v (get_or xs j d))
at_same {A} {B} v d xs i y l same = fun_ext (λ j. elim (same_or_other j i) [
  | inl e ↦ ap (λ (m : ℕ). v (get_or (set xs i y) m d)) e
      ∙ (ap v (get_or-set_same xs i y d l) ∙ (same ∙ ap (λ (m : ℕ). v (get_or xs m d)) (sym e)))
  | inr e ↦ ap v (other d xs i j y e)
])

-- an index at which the list has something lies in it
pub within_length : {A : Type 0} (xs : List A) (i : ℕ) → is_some (slice_get xs i) ≡ true → i < length xs
within_length xs i e = elim (slice_get xs i) as (λ o. slice_get xs i ≡ o → i < length xs) [
  | None ↦ (λ d. let z : false ≡ true = sym (ap (λ (o : Option _). is_some o) d) ∙ e in cc)
  | Some y ↦ (λ d. slice_get_within xs i y d)
] refl
