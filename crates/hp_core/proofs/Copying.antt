-- The steps of the loops that copy a core's lists.
use Rattle.std.proofs.Common.{◌≡◌, ℕ, suc, ◌+◌, ◌-◌, ◌<◌, ◌≤◌, List, [], ◌∷◌, ◌++◌, length, get_or, take, refl, sym, ◌∙◌, ap}
use Rattle.std.proofs.Common.{subst, arith, add-one, inl, inr}
use Rattle.std.specs.Prelude.{Bool, true, false, cond, Option, Some, None, ◌==◌, ◌&&◌, ◌↔◌, nat_lt, IsTrue, count_by, slice_get, map}
use Rattle.std.proofs.lemmas.Bool.{cases_lt, ne_eqb}
use Rattle.std.proofs.lemmas.Bool.Decides.{nat_tests}
use Rattle.std.proofs.lemmas.Grind.{common_steps}
use Rattle.std.proofs.lemmas.List.{take_more, map-append, append-nil, get_or_default}
use Rattle.std.proofs.lemmas.Option.{get_or_from_slice_get, slice_get_within, unwrap_or-slice_get}
use Rattle.std.specs.Option.{option_map, unwrap_or}
use Rattle.std.proofs.lemmas.List.Sums.{sum_by-append}
use Rattle.std.proofs.Math.ListN.{get_or-eq_default}
use Rattle.hp_base.specs.Indices.{count_below}
use Rattle.hp_base.specs.Numbers.{bit}
use Rattle.hp_base.proofs.Puts.{same_or_other}
use Rattle.hp_frames.specs.Bank.{frame_at}
use Rattle.hp_frames.specs.declared.frame.FrameState.{FrameState}
use Rattle.hp_frames.specs.declared.frame.FrameState.TheVariants.{Hand}
use Rattle.hp_table.specs.Table.{Table}
use Rattle.hp_region.specs.declared.region.Region.{Region}
use Rattle.hp_parts.proofs.Laws.{frame_at_is}
use Rattle.hp_parts.specs.View.{no_table, table_of}
use Rattle.hp_core.specs.Copies.{translations, all_translations}

-- a frame that isn't there counts as one in a hand
frame_at_none : (xs : List FrameState) (x : ℕ) → slice_get xs x ≡ None → frame_at xs x ≡ Hand
unfolding frame_at
frame_at_none xs x e = sym (unwrap_or-slice_get xs x Hand) ∙ ap (λ (o : Option FrameState). unwrap_or o Hand) e

-- what a bank answers about a frame tells whether it is in that state
pub state_test : (holds : FrameState → Bool) (a : FrameState) → ((s : FrameState) → holds s ≡ true → s ≡ a) → holds a ≡ true
    → holds Hand ≡ false → (xs : List FrameState) (x : ℕ) (b : Bool) → (IsTrue b ↔ (slice_get xs x ≡ Some a))
    → holds (frame_at xs x) ≡ b
state_test holds a is_a holds_a no_hand xs x b h = by_state (slice_get xs x) refl b h
  where
    none : (c : Bool) → (IsTrue c → ⊥) → c ≡ false
    none true n = absurd (n refl)
    none false n = refl

    same : {s t : FrameState} → Some s ≡ Some t → s ≡ t
    same e = cc

    by_test : (s : FrameState) (v : Bool) → holds s ≡ v → (c : Bool) → slice_get xs x ≡ Some s → (IsTrue c ↔ (slice_get xs x ≡ Some a))
        → holds s ≡ c
    by_test s true e c at k = e ∙ sym (k.1 (at ∙ ap (λ (v : FrameState). Some v) (is_a s e)))
    by_test s false e c at k = e ∙ sym (none c (λ t. (let d : true ≡ false = sym holds_a
        ∙ (ap holds (sym (same (sym at ∙ k.0 t))) ∙ e) in cc)))

    by_state : (o : Option FrameState) → slice_get xs x ≡ o → (c : Bool) → (IsTrue c ↔ (slice_get xs x ≡ Some a))
        → holds (frame_at xs x) ≡ c
    by_state (Some s) e c k = ap holds (frame_at_is xs x s e) ∙ by_test s (holds s) refl c e k
    by_state None e c k =
        ap holds (frame_at_none xs x e)
        ∙ (no_hand ∙ sym (none c (λ t. (let d : None ≡ Some a = sym e ∙ k.0 t in absurd (cc)))))

-- one frame more is looked at
one_more : (fr : ℕ → Bool) (n x : ℕ) → bit (nat_lt x n && fr x) + cond ((n == x) && fr n) 1 0 ≡ bit (nat_lt x (n + 1) && fr x)
one_more fr n x = elim (same_or_other x n) [
  | inl e ↦ subst (λ (y : ℕ). bit (nat_lt y n && fr y) + cond ((n == y) && fr n) 1 0 ≡ bit (nat_lt y (n + 1) && fr y)) (sym e) (here (fr n))
  | inr d ↦ (let a : (n == x) ≡ false = ne_eqb n x (λ e. d (sym e)) in
      let b : nat_lt x (n + 1) ≡ nat_lt x n = grind (arith, nat_tests, d) in rw (a, b) (omega arith))
]
  where
    here : (b : Bool) → bit (nat_lt n n && b) + cond ((n == n) && b) 1 0 ≡ bit (nat_lt n (n + 1) && b)
    here b =
        let a : nat_lt n n ≡ false = grind (arith, nat_tests) in
        let c : nat_lt n (n + 1) ≡ true = grind (arith, nat_tests) in
        let e : (n == n) ≡ true = grind (arith, nat_tests) in
        rw (a, c, e) (same b)
      where
        same : (b : Bool) → 0 + cond b 1 0 ≡ bit b
        same true = refl
        same false = refl

-- and is one of those
found_more : (fr : ℕ → Bool) (n : ℕ) (xs ys : List ℕ) → fr n ≡ true → ys ≡ xs ++ n ∷ []
    → ((x : ℕ) → count_by (λ frame. frame == x) xs ≡ bit (nat_lt x n && fr x)) → (x : ℕ)
    → count_by (λ frame. frame == x) ys ≡ bit (nat_lt x (n + 1) && fr x)
found_more fr n xs ys free is before x =
    let last : count_by {X = ℕ} (λ frame. frame == x) (n ∷ []) ≡ 0 + cond (n == x) 1 0 = refl in
    let both : count_by (λ frame. frame == x) (xs ++ n ∷ []) ≡ count_by (λ frame. frame == x) xs + count_by
    (λ frame. frame == x) (n ∷ []) = sum_by-append (λ (frame : ℕ). cond (frame == x) 1 0) xs (n ∷ []) in
    let added : count_by (λ frame. frame == x) ys ≡ count_by (λ frame. frame == x) (xs ++ n ∷ []) =
    ap (λ (zs : List ℕ). count_by (λ frame. frame == x) zs) is in
    let same : cond ((n == x) && fr n) 1 0 ≡ cond {A = ℕ} (n == x) 1 0 = rw free (onto (n == x)) in
    let next = one_more fr n x in
    let all = before x in
    omega (arith, added, both, last, same, next, all)
  where
    onto : (b : Bool) → cond {A = ℕ} (b && true) 1 0 ≡ cond {A = ℕ} b 1 0
    onto true = refl
    onto false = refl

-- or isn't
found_same : (fr : ℕ → Bool) (n : ℕ) (xs ys : List ℕ) → fr n ≡ false → ys ≡ xs
    → ((x : ℕ) → count_by (λ frame. frame == x) xs ≡ bit (nat_lt x n && fr x)) → (x : ℕ)
    → count_by (λ frame. frame == x) ys ≡ bit (nat_lt x (n + 1) && fr x)
found_same fr n xs ys taken is before x =
    let kept : count_by (λ frame. frame == x) ys ≡ count_by (λ frame. frame == x) xs =
    ap (λ (zs : List ℕ). count_by (λ frame. frame == x) zs) is in
    let same : cond {A = ℕ} ((n == x) && fr n) 1 0 ≡ 0 = rw taken (onto (n == x)) in
    let next = one_more fr n x in
    let all = before x in
    omega (arith, kept, same, next, all)
  where
    onto : (b : Bool) → cond {A = ℕ} (b && false) 1 0 ≡ 0
    onto true = refl
    onto false = refl

-- so by what was added
pub found_next : (fr : ℕ → Bool) (n : ℕ) (xs ys : List ℕ) (b : Bool) → fr n ≡ b → ys ≡ xs ++ cond b (n ∷ []) []
    → ((x : ℕ) → count_by (λ frame. frame == x) xs ≡ bit (nat_lt x n && fr x)) → (x : ℕ)
    → count_by (λ frame. frame == x) ys ≡ bit (nat_lt x (n + 1) && fr x)
found_next fr n xs ys true e is before = found_more fr n xs ys e is before
found_next fr n xs ys false e is before = found_same fr n xs ys e (is ∙ append-nil xs) before

-- and so many were
pub long_next : (xs ys : List ℕ) (n : ℕ) (b : Bool) → ys ≡ xs ++ cond b (n ∷ []) [] → length ys ≡ length xs + cond b 1 0
long_next xs ys n true is = grind (arith, common_steps, is)
long_next xs ys n false is = grind (arith, common_steps, is)

-- a frame beyond the list isn't one of those
past_none : (holds : FrameState → Bool) → holds Hand ≡ false → (xs : List FrameState) (x : ℕ) → length xs ≤ x
    → holds (frame_at xs x) ≡ false
unfolding frame_at
past_none holds no_hand xs x l = ap holds (get_or-eq_default xs Hand l) ∙ no_hand

-- all are looked at
pub found_all : (holds : FrameState → Bool) → holds Hand ≡ false → (frames : List FrameState) (n : ℕ) (xs : List ℕ) → length frames ≤ n
    → ((x : ℕ) → count_by (λ frame. frame == x) xs ≡ bit (nat_lt x n && holds (frame_at frames x))) → (x : ℕ)
    → count_by (λ frame. frame == x) xs ≡ bit (holds (frame_at frames x))
found_all holds no_hand frames n xs all before x = before x ∙ elim (cases_lt x n) [
  | inl l ↦ (let q : nat_lt x n ≡ true = grind (arith, nat_tests, l) in rw q refl)
  | inr l ↦ (let none = past_none holds no_hand frames x (omega arith) in rw none (off (nat_lt x n)))
]
  where
    off : (b : Bool) → bit (b && false) ≡ 0
    off true = refl
    off false = refl

-- a frame that is looked at counts where it is one of those
pub count_more : (fr : ℕ → Bool) (n a b : ℕ) (t : Bool) → fr n ≡ t → a ≡ count_below fr n
    → b ≡ a + cond t 1 0 → b ≡ count_below fr (n + 1)
unfolding count_below
count_more fr n a b t is before more = rw (add-one, is) (more ∙ ap (λ (k : ℕ). k + cond t 1 0) before)

-- one region more
pub ranges_more : (regions : List Region) (k : ℕ) (o : Option (ℕ × ℕ)) (r : ℕ × ℕ) (xs ys : List (ℕ × ℕ))
    → o ≡ option_map (λ r. (r.from, r.to)) (slice_get regions k) → o ≡ Some r → xs ≡ map (λ r. (r.from, r.to)) (take k regions)
    → ys ≡ xs ++ r ∷ [] → ys ≡ map (λ r. (r.from, r.to)) (take (k + 1) regions)
ranges_more regions k o r xs ys read some before is = by_region (slice_get regions k) refl
  where
    by_region : (g : Option Region) → slice_get regions k ≡ g → ys ≡ map (λ r. (r.from, r.to)) (take (k + 1) regions)
    by_region None e =
        (let d : None ≡ Some r = sym (ap (λ (g : Option Region). option_map (λ r. (r.from, r.to)) g) e)
        ∙ (sym read ∙ some) in absurd (cc))
    by_region (Some y) e =
        let d : Some (y.from, y.to) ≡ Some r = sym (ap (λ (g : Option Region). option_map (λ r. (r.from, r.to)) g) e) ∙ (sym read ∙ some) in
        let same : (y.from, y.to) ≡ r = ap (λ (p : Option (ℕ × ℕ)). unwrap_or p r) d in
        let more : take (k + 1) regions ≡ take k regions ++ y ∷ [] =
        take_more regions k y (slice_get_within regions k y e)
        ∙ ap (λ (z : Region). take k regions ++ z ∷ []) (get_or_from_slice_get regions k y y e) in
        is ∙ (ap (λ (z : ℕ × ℕ). xs ++ z ∷ []) (sym same)
        ∙ (ap (λ (zs : List (ℕ × ℕ)). zs ++ (y.from, y.to) ∷ []) before
        ∙ (sym (map-append (λ (r : Region). (r.from, r.to)) (take k regions) (y ∷ []))
        ∙ ap (λ (rs : List Region). map (λ r. (r.from, r.to)) rs) (sym more))))

-- no task yet
pub no_translations : (spaces : List Table) → [] ≡ all_translations spaces 0
unfolding all_translations
no_translations spaces = refl

-- one task more
pub more_translations : (spaces : List Table) (k task : ℕ) (table : Table) (xs ys : List (ℕ × ℕ × ℕ × ℕ)) → k < length spaces
    → task ≡ k + 1 → table ≡ get_or spaces k table → xs ≡ all_translations spaces k → ys ≡ xs ++ translations task table
    → ys ≡ all_translations spaces (k + 1)
unfolding all_translations
more_translations spaces k task table xs ys within numbered is before more =
    let next : task ≡ suc k = numbered ∙ add-one k in
    let back : suc k - 1 ≡ k = omega arith in
    let q : (suc k == 0) ≡ false = ne_eqb (suc k) 0 (λ z. omega (arith, z)) in
    let there : table ≡ table_of spaces (suc k) =
    rw q (is ∙ (get_or_default spaces k table no_table within ∙ ap (λ (j : ℕ). get_or spaces j no_table) (sym back))) in
    more ∙ (ap (λ (zs : List (ℕ × ℕ × ℕ × ℕ)). zs ++ translations task table) before
    ∙ (ap (λ (t : ℕ). all_translations spaces k ++ translations t table) next
    ∙ (ap (λ (d : Table). all_translations spaces k ++ translations (suc k) d) there
    ∙ ap (λ (n : ℕ). all_translations spaces n) (sym (add-one k)))))
