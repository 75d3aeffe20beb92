-- What is missing, vacant or in a tail of a set of indices, after one change of the set or of the pages.
use Rattle.std.proofs.Common.{◌≡◌, ◌≢◌, ℕ, ◌+◌, ◌<◌, ◌≤◌, cond, refl, ap, sym, ◌∙◌, arith, inl, inr, ◌⊎◌}
use Rattle.std.specs.Prelude.{Bool, true, false, not, ◌&&◌, ◌||◌, nat_lt, nat_le, Option, Some, None}
use Rattle.std.proofs.lemmas.Bool.Decides.{nat_tests}
use Rattle.hp_base.specs.Numbers.{put, bit, is_none}
use Rattle.hp_base.specs.Indices.{is_within, count_below, count_within, missing, add_range, cut_tail, vacant}
use Rattle.hp_base.proofs.Puts.{put_same, put_other}
use Rattle.hp_base.proofs.Counting.{
  count_below-sum,
  count_below-ext,
  count_below_none,
  count_below_mono,
  count_below-is_within,
  count_below-add_range,
  missing_anti,
}
use Rattle.hp_base.proofs.Totals.{count_below-change}

not_not : (b : Bool) → not (not b) ≡ b
not_not true = refl
not_not false = refl

and_more : (a b c : Bool) → b ≡ c → (a && b) ≡ (a && c)
and_more a b c e = ap (λ (m : Bool). a && m) e

paged : (r : Bool) (o : Option ℕ) → (r ≡ false → o ≡ None) → not (is_none o) ≡ true → r ≡ true
paged true o h e = refl
paged false o h e = let d : not (is_none o) ≡ false = ap (λ (m : Option ℕ). not (is_none m)) (h refl) in cc

-- a range that joins the set brings as many vacant indices as were missing; a page lies only where the set has its index
pub vacant_add : (limit : ℕ) (r : ℕ → Bool) (c : ℕ → Option ℕ) (from to : ℕ) → to ≤ limit → ((i : ℕ) → r i ≡ false → c i ≡ None)
    → vacant limit (add_range r from to) c ≡ vacant limit r c + missing r from to
unfolding vacant
vacant_add limit r c from to l inside =
    let a = count_below-add_range r (λ k. not (is_none (c k))) from to limit l (λ k e. paged (r k) (c k) (inside k) e) in
    let x = count_below-ext (λ k. add_range r from to k && not (not (is_none (c k)))) (λ k. add_range r from to k && is_none (c k))
    limit (λ k below. and_more (add_range r from to k) _ _ (not_not (is_none (c k)))) in
    let y = count_below-ext (λ k. r k && not (not (is_none (c k)))) (λ k. r k && is_none (c k)) limit
    (λ k below. and_more (r k) _ _ (not_not (is_none (c k)))) in
    omega arith

-- a page is placed at a vacant index
pub vacant_place : (limit : ℕ) (r : ℕ → Bool) (c : ℕ → Option ℕ) (k x : ℕ) → k < limit → r k ≡ true → c k ≡ None
    → vacant limit r (put c k (Some x)) + 1 ≡ vacant limit r c
unfolding vacant
vacant_place limit r c k x l e n =
    let a = count_below-change (λ i. r i && is_none (c i)) (λ i. r i && is_none (put c k (Some x) i)) k limit l
    (λ j h. ap (λ (o : Option ℕ). r j && is_none o) (put_other c k (Some x) j h)) in
    let b : bit (r k && is_none (c k)) ≡ 1 = rw (e, n) refl in
    let d : bit (r k && is_none (put c k (Some x) k)) ≡ 0 = rw (e, put_same) refl in
    omega arith

-- a page goes from an index in the set
pub vacant_evict : (limit : ℕ) (r : ℕ → Bool) (c : ℕ → Option ℕ) (k x : ℕ) → k < limit → r k ≡ true → c k ≡ Some x
    → vacant limit r (put c k None) ≡ vacant limit r c + 1
unfolding vacant
vacant_evict limit r c k x l e n =
    let a = count_below-change (λ i. r i && is_none (c i)) (λ i. r i && is_none (put c k None i)) k limit l
    (λ j h. ap (λ (o : Option ℕ). r j && is_none o) (put_other c k None j h)) in
    let b : bit (r k && is_none (c k)) ≡ 0 = rw (e, n) refl in
    let d : bit (r k && is_none (put c k None k)) ≡ 1 = rw (e, put_same) refl in
    omega arith

-- a vacant index leaves the set
pub vacant_drop : (limit : ℕ) (r : ℕ → Bool) (c : ℕ → Option ℕ) (k : ℕ) → k < limit → r k ≡ true → c k ≡ None
    → vacant limit (put r k false) c + 1 ≡ vacant limit r c
unfolding vacant
vacant_drop limit r c k l e n =
    let a = count_below-change (λ i. r i && is_none (c i)) (λ i. put r k false i && is_none (c i)) k limit l
    (λ j h. ap (λ (o : Bool). o && is_none (c j)) (put_other r k false j h)) in
    let b : bit (r k && is_none (c k)) ≡ 1 = rw (e, n) refl in
    let d : bit (put r k false k && is_none (c k)) ≡ 0 = ap (λ (o : Bool). bit (o && is_none (c k))) (put_same r k false) in
    omega arith

cut_at : (a b r n : Bool) → b ≡ not a → (b ≡ true → n ≡ true) → cond (r && n) 1 0 ≡ cond ((a && r) && n) 1 0 + cond (b && r) 1 0
cut_at true b true true e h = rw e refl
cut_at true b true false e h = rw e refl
cut_at true b false true e h = rw e refl
cut_at true b false false e h = rw e refl
cut_at false b true true e h = rw e refl
cut_at false b true false e h = let d : false ≡ true = h e in cc
cut_at false b false true e h = rw e refl
cut_at false b false false e h = rw e refl

-- a tail that has no page leaves the set
pub vacant_cut : (limit : ℕ) (r : ℕ → Bool) (c : ℕ → Option ℕ) (from : ℕ) → ((i : ℕ) → from ≤ i → c i ≡ None)
    → vacant limit r c ≡ vacant limit (cut_tail r from) c + count_within r from limit
unfolding vacant count_within cut_tail
vacant_cut limit r c from h = count_below-sum (λ k. (nat_lt k from && r k) && is_none (c k)) (λ k. nat_le from k && r k)
    (λ k. r k && is_none (c k)) limit
    (λ k below. cut_at (nat_lt k from) (nat_le from k) (r k) (is_none (c k)) (sides k from) (λ e. ap is_none (h k (above k from e))))
  where
    sides : (k from : ℕ) → nat_le from k ≡ not (nat_lt k from)
    sides k from = grind (arith, nat_tests)

    above : (k from : ℕ) → nat_le from k ≡ true → from ≤ k
    above k from e = grind (arith, nat_tests)

-- what one index lacks
pub missing_one : (r : ℕ → Bool) (i : ℕ) → missing r i (i + 1) ≡ bit (not (r i))
unfolding missing
missing_one r i = here (r i) refl
  where
    absent : (k : ℕ) → k < i + 1 → r i ≡ true → (nat_le i k && not (r k)) ≡ false
    absent k l e = here (nat_le i k) refl
      where
        here : (b : Bool) → nat_le i k ≡ b → (b && not (r k)) ≡ false
        here false d = refl
        here true d = let same : k ≡ i = grind (arith, nat_tests) in ap (λ (m : ℕ). not (r m)) same ∙ ap not e

    alone : (k : ℕ) → k < i + 1 → r i ≡ false → (nat_le i k && not (r k)) ≡ is_within i (i + 1) k
    alone k l e = here (nat_le i k) refl
      where
        here : (b : Bool) → nat_le i k ≡ b → (b && not (r k)) ≡ (b && nat_lt k (i + 1))
        here false d = refl
        here true d =
            let same : k ≡ i = grind (arith, nat_tests) in
            let low : nat_lt k (i + 1) ≡ true = grind (arith, nat_tests) in
            ap (λ (m : ℕ). not (r m)) same ∙ ap not e ∙ sym low

    here : (b : Bool) → r i ≡ b → count_below (λ k. nat_le i k && not (r k)) (i + 1) ≡ bit (not b)
    here true e = count_below_none _ (i + 1) (λ k l. absent k l e)
    here false e =
        let a = count_below-ext (λ k. nat_le i k && not (r k)) (is_within i (i + 1)) (i + 1) (λ k l. alone k l e) in
        let b = count_below-is_within i (i + 1) (i + 1) in
        omega arith

pub missing_fewer : (r s : ℕ → Bool) (from to : ℕ) → ((i : ℕ) → r i ≡ true → s i ≡ true) → missing s from to ≤ missing r from to
missing_fewer r s from to more = missing_anti r s from to (λ k a b. more k)

pub add_range_keeps : (r : ℕ → Bool) (from to i : ℕ) → r i ≡ true → add_range r from to i ≡ true
unfolding add_range
add_range_keeps r from to i e = rw e (or_yes (is_within from to i))
  where
    or_yes : (b : Bool) → (b || true) ≡ true
    or_yes true = refl
    or_yes false = refl

pub add_range_has : (r : ℕ → Bool) (from to i : ℕ) → is_within from to i ≡ true → add_range r from to i ≡ true
unfolding add_range
add_range_has r from to i e = ap (λ (b : Bool). b || r i) e

pub add_range_out : (r : ℕ → Bool) (from to i : ℕ) → r i ≡ false → (is_within from to i ≡ true → ⊥) → add_range r from to i ≡ false
unfolding add_range
add_range_out r from to i e out = ap (λ (b : Bool). b || r i) (isnt (is_within from to i) out) ∙ e
  where
    isnt : (b : Bool) → (b ≡ true → ⊥) → b ≡ false
    isnt true h = absurd (h refl)
    isnt false h = refl

pub add_range_one : (r : ℕ → Bool) (i : ℕ) → add_range r i (i + 1) i ≡ true
add_range_one r i = add_range_has r i (i + 1) i (within_one i)
  where
    within_one : (i : ℕ) → is_within i (i + 1) i ≡ true
    within_one i = grind (arith, nat_tests)

-- a larger set has no shorter tail
pub tail_more : (limit from : ℕ) (r s : ℕ → Bool) → ((j : ℕ) → r j ≡ true → s j ≡ true)
    → count_within r from limit ≤ count_within s from limit
unfolding count_within
tail_more limit from r s h =
    count_below_mono (λ k. nat_le from k && r k) (λ k. nat_le from k && s k) limit
    (λ k below e. mask (nat_le from k) (r k) (s k) (h k) e)
  where
    mask : (a b d : Bool) → (b ≡ true → d ≡ true) → (a && b) ≡ true → (a && d) ≡ true
    mask true b d h e = h e
    mask false b d h e = e

-- one more index counts
pub tail_next : (limit i : ℕ) (r : ℕ → Bool) → i < limit → r i ≡ true → count_within r i limit ≡ count_within r (i + 1) limit + 1
unfolding count_within
tail_next limit i r l e =
    let a = count_below-change (λ k. nat_le (i + 1) k && r k) (λ k. nat_le i k && r k) i limit l
    (λ j h. ap (λ (o : Bool). o && r j) (past j i h)) in
    let b : bit (nat_le (i + 1) i && r i) ≡ 0 = ap (λ (o : Bool). bit (o && r i)) (before i) in
    let d : bit (nat_le i i && r i) ≡ 1 = ap (λ (o : Bool). bit (o && r i)) (here i) ∙ ap bit e in
    omega arith
  where
    past : (j i : ℕ) → j ≢ i → nat_le i j ≡ nat_le (i + 1) j
    past j i h = grind (arith, nat_tests)

    before : (i : ℕ) → nat_le (i + 1) i ≡ false
    before i = grind (arith, nat_tests)

    here : (i : ℕ) → nat_le i i ≡ true
    here i = grind (arith, nat_tests)

pub tail_wider : (limit from to : ℕ) (r : ℕ → Bool) → from ≤ to → count_within r to limit ≤ count_within r from limit
unfolding count_within
tail_wider limit from to r l =
    count_below_mono (λ k. nat_le to k && r k) (λ k. nat_le from k && r k) limit
    (λ k below e. wide (r k) (nat_le to k) (nat_le from k) (later k) e)
  where
    wide : (a b d : Bool) → (b ≡ true → d ≡ true) → (b && a) ≡ true → (d && a) ≡ true
    wide a true d h e = ap (λ (m : Bool). m && a) (h refl) ∙ e
    wide a false d h e = (let x : false ≡ true = e in cc)

    later : (k : ℕ) → nat_le to k ≡ true → nat_le from k ≡ true
    later k e = grind (arith, nat_tests)

pub cut_below : (r : ℕ → Bool) (from i : ℕ) → i < from → r i ≡ true → cut_tail r from i ≡ true
unfolding cut_tail
cut_below r from i l e = ap (λ (o : Bool). nat_lt i from && o) e ∙ both
  where
    both : (nat_lt i from && true) ≡ true
    both = grind (arith, nat_tests)

pub cut_false : (r : ℕ → Bool) (from i : ℕ) → cut_tail r from i ≡ false → (r i ≡ false) ⊎ (from ≤ i)
unfolding cut_tail
cut_false r from i e = split (nat_lt i from) (r i) refl e
  where
    split : (a b : Bool) → nat_lt i from ≡ a → (a && b) ≡ false → (b ≡ false) ⊎ (from ≤ i)
    split true b d h = inl h
    split false b d h = inr (grind (arith, nat_tests))

pub cut_out : (r : ℕ → Bool) (from i : ℕ) → r i ≡ false → cut_tail r from i ≡ false
unfolding cut_tail
cut_out r from i e = ap (λ (o : Bool). nat_lt i from && o) e ∙ both (nat_lt i from)
  where
    both : (b : Bool) → (b && false) ≡ false
    both true = refl
    both false = refl

pub cut_above : (r : ℕ → Bool) (from i : ℕ) → from ≤ i → cut_tail r from i ≡ false
unfolding cut_tail
cut_above r from i l = ap (λ (o : Bool). o && r i) low
  where
    low : nat_lt i from ≡ false
    low = grind (arith, nat_tests)
