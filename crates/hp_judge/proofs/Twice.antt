-- Frames that are looked at one after the other.
use Rattle.std.proofs.Common.{arith, ◌≡◌, ◌<◌, ◌≤◌, ◌+◌, ◌++◌, ◌∷◌, ◌⊎◌, [], ℕ, Bool, true, false, cond, refl, sym, ap, ◌∙◌, subst, inl, inr, List, length}
use Rattle.std.specs.Prelude.{nat_eq, nat_lt, take, slice_index_or, MatchBool}
use Rattle.std.specs.List.{list_any}
use Rattle.std.specs.HashSet.{HashSet, contains}
use Rattle.std.proofs.lemmas.Bool.{eqb-true, lt-ltb, ltb-false, ltb-true}
use Rattle.std.specs.Cmp.{nat_eq_equiv}
use Rattle.std.proofs.lemmas.List.Sums.{count_by_more_no, count_by_more_yes}
use Rattle.hp_judge.specs.declared.finding.Finding.{Finding}
use Rattle.hp_judge.specs.declared.finding.Finding.TheVariants as finding
use Rattle.hp_judge.specs.Frames.{AddsTwice, HasSeen, NotesFrame, times_in}
use Rattle.hp_judge.proofs.Adding.{adds_none, adds_one, adds_same}

-- none is looked at yet
pub seen_none : {S : Type 0} (s : HashSet ℕ S) → s.keys ≡ [] → HasSeen s []
unfolding HasSeen
seen_none s e x = (λ i. list_any (nat_eq x) (e i))

pub twice_none : (found : List Finding) → AddsTwice [] found found
unfolding AddsTwice
twice_none found = adds_none _ found (λ f q. omega (arith, q.2))

-- how often a frame is among one frame more
times_more : (xs : List ℕ) (k : ℕ) → k < length xs → (y : ℕ) → ((slice_index_or xs k 0 ≡ y) × (times_in (take (k + 1) xs) y ≡ times_in (take k xs) y + 1))
    ⊎ ((nat_eq (slice_index_or xs k 0) y ≡ false) × (times_in (take (k + 1) xs) y ≡ times_in (take k xs) y))
times_more xs k lt y = by (nat_eq (slice_index_or xs k 0) y) refl
  where
    by : (b : Bool) → nat_eq (slice_index_or xs k 0) y ≡ b → ((slice_index_or xs k 0 ≡ y) × (times_in (take (k + 1) xs) y ≡ times_in (take k xs) y + 1))
        ⊎ ((nat_eq (slice_index_or xs k 0) y ≡ false) × (times_in (take (k + 1) xs) y ≡ times_in (take k xs) y))
    by true e = inl (eqb-true _ _ e, count_by_more_yes (λ f. nat_eq f y) xs k 0 lt e)
    by false e = inr (e, count_by_more_no (λ f. nat_eq f y) xs k 0 lt e)

-- one frame more is looked at
pub seen_more : {S : Type 0} (xs : List ℕ) (k : ℕ) (s n : HashSet ℕ S) (found after : List Finding) → k < length xs → HasSeen s (take k xs)
    → NotesFrame s n (slice_index_or xs k 0) found after → HasSeen n (take (k + 1) xs)
unfolding HasSeen
seen_more xs k s n found after lt seen notes y = elim (times_more xs k lt y) [
  | inl w ↦ notes.has y ∙ ap (λ (b : Bool). cond b true (contains nat_eq s y)) (same w.0)
      ∙ sym (lt-ltb 0 (times_in (take (k + 1) xs) y) (omega (arith, w.1)))
  | inr w ↦ notes.has y ∙ (λ i. cond (w.0 i) true (contains nat_eq s y)) ∙ seen y ∙ ap (nat_lt 0) (sym w.1)
]
  where
    same : slice_index_or xs k 0 ≡ y → nat_eq (slice_index_or xs k 0) y ≡ true
    same e = subst (λ (z : ℕ). nat_eq (slice_index_or xs k 0) z ≡ true) e (nat_eq_equiv.refl (slice_index_or xs k 0))

pub twice_more : {S : Type 0} (xs : List ℕ) (k : ℕ) (s n : HashSet ℕ S) (before found after : List Finding) → k < length xs
    → HasSeen s (take k xs) → AddsTwice (take k xs) before found → NotesFrame s n (slice_index_or xs k 0) found after
    → AddsTwice (take (k + 1) xs) before after
unfolding HasSeen AddsTwice
twice_more xs k s n before found after lt seen adds notes = by (contains nat_eq s (slice_index_or xs k 0)) (seen (slice_index_or xs k 0)) notes.found
  where
    x : ℕ
    x = slice_index_or xs k 0

    wider : (f : Finding) → ((y : ℕ) × (f ≡ finding.Place y) × (2 ≤ times_in (take k xs) y))
        → (y : ℕ) × (f ≡ finding.Place y) × (2 ≤ times_in (take (k + 1) xs) y)
    wider f q = elim (times_more xs k lt q.0) [
      | inl w ↦ (q.0, q.1, omega (arith, q.2, w.1))
      | inr w ↦ (q.0, q.1, omega (arith, q.2, w.1))
    ]

    own : times_in (take (k + 1) xs) x ≡ times_in (take k xs) x + 1
    own = elim (times_more xs k lt x) [
      | inl w ↦ w.1
      | inr w ↦ (let z : true ≡ false = sym (nat_eq_equiv.refl x) ∙ w.0 in absurd (cc))
    ]

    cases : (f : Finding) → ((y : ℕ) × (f ≡ finding.Place y) × (2 ≤ times_in (take (k + 1) xs) y))
        → ((y : ℕ) × (f ≡ finding.Place y) × (2 ≤ times_in (take k xs) y)) ⊎ (f ≡ finding.Place x)
    cases f q = elim (times_more xs k lt q.0) [
      | inl w ↦ inr (q.1 ∙ ap finding.Place (sym w.0))
      | inr w ↦ inl (q.0, q.1, omega (arith, q.2, w.1))
    ]

    fewer : times_in (take k xs) x ≡ 0 → (f : Finding) → ((y : ℕ) × (f ≡ finding.Place y) × (2 ≤ times_in (take (k + 1) xs) y))
        → (y : ℕ) × (f ≡ finding.Place y) × (2 ≤ times_in (take k xs) y)
    fewer none f q = elim (times_more xs k lt q.0) [
      | inl w ↦ absurd (omega (arith, q.2, w.1, ap (times_in (take k xs)) (sym w.0), none))
      | inr w ↦ (q.0, q.1, omega (arith, q.2, w.1))
    ]

    by : (b : Bool) → b ≡ nat_lt 0 (times_in (take k xs) x) → MatchBool b (after ≡ found ++ finding.Place x ∷ []) (after ≡ found)
        → AddsTwice (take (k + 1) xs) before after
    by true e m =
        subst (λ (l : List Finding). AddsTwice (take (k + 1) xs) before l) (sym m)
        (adds_one _ _ before found (finding.Place x) adds (x, refl, omega (arith, own, ltb-true 0 (times_in (take k xs) x) (sym e))) wider cases)
    by false e m =
        subst (λ (l : List Finding). AddsTwice (take (k + 1) xs) before l) (sym m)
        (adds_same _ _ before found adds wider (fewer (omega (arith, ltb-false 0 (times_in (take k xs) x) (sym e)))))
