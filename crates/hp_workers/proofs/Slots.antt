-- Slots that are filled, and emptied again.
use Rattle.std.specs.Prelude.{IfSome, OnOk, Result, Ok, Err, slice_index_or}
use Rattle.std.proofs.Common.{◌≡◌, ℕ, zero, suc, ◌<◌, ◌++◌, [], ◌∷◌, List, Option, None, All, length, get_or, set, refl, inl, inr, ap}
use Rattle.std.proofs.Common.{sym, subst, ◌∙◌, arith, replicate}
use Rattle.std.proofs.lemmas.Bool.{cases_eq}
use Rattle.std.proofs.lemmas.List.{get_or_append_left, get_or-set_same, get_or-set_other, get_or_read, length-append}
use Rattle.std.proofs.Math.Seq.{get_or-append_seam}
use Rattle.hp_workers.specs.Claims.{AreOwn}

-- ---- the last of a list

-- what each item of a list meets, each before its last ones does
pub all_before : {X : Type 0} (P : X → Type 0) (xs ys both : List X) → both ≡ xs ++ ys → All P both → All P xs
all_before P xs ys both is h k d within =
    let whole : k < length both = omega (arith, within, ap length is, length-append xs ys) in
    subst P (ap (λ l. get_or l k d) is ∙ get_or_append_left xs ys d k within) (h k d whole)

-- and so does its last item
pub last_of : {X : Type 0} (P : X → Type 0) (xs : List X) (x : X) (both : List X) → both ≡ xs ++ x ∷ [] → All P both → P x
last_of P xs x both is h =
    let within : length xs < length both = omega (arith, ap length is, length-append xs (x ∷ [])) in
    subst P (ap (λ l. get_or l (length xs) x) is ∙ get_or-append_seam xs x [] x) (h (length xs) x within)

-- ---- slots

empty_there : {M : Type 0} (empty : Option M) (n k : ℕ) → slice_index_or (replicate n empty) k empty ≡ empty
empty_there empty zero k = refl
empty_there empty (suc n) zero = refl
empty_there empty (suc n) (suc k) = empty_there empty n k

-- where each is empty, each has its own
pub empty_own : {M : Type 0} (right : ℕ → M → Type 0) (places : ℕ) (slots : List (Option M)) → slots ≡ replicate places None
    → AreOwn right slots
unfolding AreOwn
empty_own {M} right places slots is k =
    subst (λ (slot : Option M). IfSome slot (right k))
    (sym (ap (λ (l : List (Option M)). slice_index_or l k None) is ∙ empty_there None places k)) tt

-- they stay so where a slot gets what is right at its place, or nothing
pub slot_set : {M : Type 0} (right : ℕ → M → Type 0) (slots : List (Option M)) (at : ℕ) (slot : Option M) → AreOwn right slots
    → at < length slots → IfSome slot (right at) → AreOwn right (set slots at slot)
unfolding AreOwn
slot_set {M} right slots at slot own there is k = elim (cases_eq k at) [
  | inl same ↦ subst (λ (n : ℕ). IfSome (get_or (set slots at slot) n None) (right n)) (sym same)
      (subst (λ (s : Option M). IfSome s (right at)) (sym (get_or-set_same slots at slot None there)) is)
  | inr other ↦ subst (λ (s : Option M). IfSome s (right k)) (sym (get_or-set_other slots at k slot None other)) (own k)
]

-- what is taken out of a slot is right at its place
pub slot_taken : {M : Type 0} (right : ℕ → M → Type 0) (slots : List (Option M)) (at : ℕ) (slot taken : Option M) → AreOwn right slots
    → at < length slots → slot ≡ slice_index_or slots at slot → taken ≡ slot → IfSome taken (right at)
unfolding AreOwn
slot_taken {M} right slots at slot taken own there is same =
    subst (λ (s : Option M). IfSome s (right at)) (sym (same ∙ get_or_read slots at slot there is None)) (own at)

-- and the slots stay right without it
pub slot_left : {M : Type 0} (right : ℕ → M → Type 0) (slots : List (Option M)) (at : ℕ) (left : Option M) → AreOwn right slots
    → at < length slots → left ≡ None → AreOwn right (set slots at left)
slot_left {M} right slots at left own there empty =
    slot_set right slots at left own there (subst (λ (s : Option M). IfSome s (right at)) (sym empty) tt)

-- what holds anyway holds where an answer is good
pub ok_or_not : {A E : Type 0} (r : Result A E) (P : Type 0) → P → OnOk r P
ok_or_not (Ok a) P h = h
ok_or_not (Err e) P h = tt
