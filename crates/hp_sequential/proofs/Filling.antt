-- Indices of a file that get a page one after the other: pages, reservations, frames and counts after each.
use Rattle.std.proofs.Common.{◌≡◌, ◌≢◌, ℕ, zero, suc, ◌+◌, ◌<◌, ◌≤◌, add-one, refl, ap, sym, ◌∙◌, subst, arith, inl, inr}
use Rattle.std.proofs.Math.Path.{fun_ext}
use Rattle.std.proofs.lemmas.Bool.Decides.{nat_tests}
use Rattle.std.specs.Prelude.{Bool, true, false, not, ◌&&◌, ◌||◌, nat_le, Option, Some, None, cond}
use Rattle.hp_base.specs.Numbers.{put, is_none, bit}
use Rattle.hp_base.specs.Indices.{is_within, count_below, count_within, missing, add_range}
use Rattle.hp_base.proofs.Counting.{count_below-sum, count_below_none}
use Rattle.hp_base.proofs.Puts.{put_same, put_other, same_or_other}
use Rattle.hp_frames.specs.declared.frame.FrameState.{FrameState}
use Rattle.hp_frames.specs.declared.frame.FrameState.TheVariants.{Free, Hand, Placed}
use Rattle.hp_frames.specs.Bank.{is_free}
use Rattle.hp_machine.specs.State.{free_frames}
use Rattle.hp_laws.proofs.Effects.{free_change}
use Rattle.hp_sequential.specs.Meaning.{Filled}
use Rattle.hp_laws.proofs.Deciding.{some_same}
use Rattle.hp_sequential.proofs.Alone.{put_put}

-- one more index of a range counts, or doesn't
pub count_next : (set : ℕ → Bool) (from i : ℕ) → from ≤ i → count_within set from (i + 1) ≡ count_within set from i + cond (set i) 1 0
unfolding count_within count_below
count_next set from i l =
    let a : nat_le from i ≡ true = grind (arith, nat_tests) in
    rw add-one (ap (λ (c : Bool). count_below (λ k. nat_le from k && set k) i + cond (c && set i) 1 0) a)

-- one more index of a range is missing, or isn't
pub missing_next : (set : ℕ → Bool) (from i : ℕ) → from ≤ i → missing set from (i + 1) ≡ missing set from i + cond (not (set i)) 1 0
unfolding missing count_below
missing_next set from i l =
    let a : nat_le from i ≡ true = grind (arith, nat_tests) in
    rw add-one (ap (λ (c : Bool). count_below (λ k. nat_le from k && not (set k)) i + cond (c && not (set i)) 1 0) a)

-- nothing is in an empty range
pub count_empty : (set : ℕ → Bool) (from : ℕ) → count_within set from from ≡ 0
unfolding count_within
count_empty set from =
    count_below_none (λ k. nat_le from k && set k) from
    (λ k l. (let a : nat_le from k ≡ false = grind (arith, nat_tests) in ap (λ (c : Bool). c && set k) a))

-- and nothing is missing of it
pub missing_empty : (set : ℕ → Bool) (from : ℕ) → missing set from from ≡ 0
unfolding missing
missing_empty set from =
    count_below_none (λ k. nat_le from k && not (set k)) from
    (λ k l. (let a : nat_le from k ≡ false = grind (arith, nat_tests) in ap (λ (c : Bool). c && not (set k)) a))

-- below a higher bound there are no fewer
count_below_longer : (set : ℕ → Bool) (m n : ℕ) → m ≤ n → count_below set m ≤ count_below set n
unfolding count_below
count_below_longer set m zero l = (let e : m ≡ 0 = omega arith in subst (λ (k : ℕ). count_below set k ≤ 0) (sym e) (omega arith))
count_below_longer set m (suc n) l = elim (same_or_other m (suc n)) [
  | inl e ↦ subst (λ (k : ℕ). count_below set k ≤ count_below set (suc n)) (sym e) (omega arith)
  | inr e ↦ (let z = count_below_longer set m n (omega arith) in omega arith)
]

-- a longer range misses no fewer
pub missing_longer : (set : ℕ → Bool) (from m n : ℕ) → m ≤ n → missing set from m ≤ missing set from n
unfolding missing
missing_longer set from m n l = count_below_longer (λ k. nat_le from k && not (set k)) m n l

-- indices without a page are reserved or missing
pub bare_parts : (reserved : ℕ → Bool) (pages : ℕ → Option ℕ) (from to : ℕ) → ((i : ℕ) → reserved i ≡ false → pages i ≡ None)
    → count_within (λ j. is_none (pages j)) from to ≡ count_within (λ j. reserved j && is_none (pages j)) from to + missing reserved from to
unfolding count_within missing
bare_parts reserved pages from to bare =
    count_below-sum (λ k. nat_le from k && (reserved k && is_none (pages k))) (λ k. nat_le from k && not (reserved k))
    (λ k. nat_le from k && is_none (pages k)) to (λ k l. parts (nat_le from k) (reserved k) (pages k) (bare k))
  where
    parts : (a r : Bool) (o : Option ℕ) → (r ≡ false → o ≡ None)
        → cond (a && is_none o) 1 0 ≡ cond (a && (r && is_none o)) 1 0 + cond (a && not r) 1 0
    parts true true None h = refl
    parts true true (Some x) h = refl
    parts true false None h = refl
    parts true false (Some x) h = (let z : Some x ≡ None = h refl in absurd (cc))
    parts false r o h = refl

-- a range with one more index
pub range_more : (reserved : ℕ → Bool) (from i : ℕ) → from ≤ i
    → add_range (add_range reserved from i) i (i + 1) ≡ add_range reserved from (i + 1)
unfolding add_range
range_more reserved from i l =
    fun_ext (λ j. each j (is_within i (i + 1) j) (is_within from i j) (is_within from (i + 1) j) (reserved j)
    (grind (arith, nat_tests)))
  where
    each : (j : ℕ) (a b c r : Bool) → (a || b) ≡ c → (a || (b || r)) ≡ (c || r)
    each j true b c r e = ap (λ (m : Bool). m || r) e
    each j false b c r e = ap (λ (m : Bool). m || r) e

-- a range with one more index that is reserved already adds nothing more
pub range_same : (reserved : ℕ → Bool) (from i : ℕ) → from ≤ i → reserved i ≡ true
    → add_range reserved from i ≡ add_range reserved from (i + 1)
unfolding add_range
range_same reserved from i l e = fun_ext (λ j. elim (same_or_other j i) [
  | inl d ↦ (let a : reserved j ≡ true = ap reserved d ∙ e in each (is_within from i j) (is_within from (i + 1) j) (reserved j) a)
  | inr d ↦ (let a : is_within from i j ≡ is_within from (i + 1) j = grind (arith, nat_tests) in ap (λ (c : Bool). c || reserved j) a)
])
  where
    each : (a b r : Bool) → r ≡ true → (a || r) ≡ (b || r)
    each true true r e = refl
    each true false r e = sym e
    each false true r e = e
    each false false r e = refl

-- an empty range adds nothing
pub range_empty : (reserved : ℕ → Bool) (from : ℕ) → add_range reserved from from ≡ reserved
unfolding add_range
range_empty reserved from =
    fun_ext (λ j. (let a : is_within from from j ≡ false = grind (arith, nat_tests) in ap (λ (c : Bool). c || reserved j) a))

-- a range that ends at an index leaves it as it is
pub range_past : (reserved : ℕ → Bool) (from i : ℕ) → add_range reserved from i i ≡ reserved i
unfolding add_range
range_past reserved from i = let a : is_within from i i ≡ false = grind (arith, nat_tests) in ap (λ (c : Bool). c || reserved i) a

-- where pages are reserved, a range adds its indices that have no page
pub range_gains : (reserved : ℕ → Bool) (pages : ℕ → Option ℕ) (from to : ℕ) → ((i : ℕ) → reserved i ≡ false → pages i ≡ None)
    → add_range reserved from to ≡ (λ j. reserved j || (is_within from to j && is_none (pages j)))
unfolding add_range
range_gains reserved pages from to bare = fun_ext (λ j. each (is_within from to j) (reserved j) (pages j) (bare j))
  where
    each : (a r : Bool) (o : Option ℕ) → (r ≡ false → o ≡ None) → (a || r) ≡ (r || (a && is_none o))
    each true true o h = refl
    each true false None h = refl
    each true false (Some x) h = (let z : Some x ≡ None = h refl in absurd (cc))
    each false true o h = refl
    each false false o h = refl

-- nothing is filled yet
pub none_filled : (frames : ℕ) (pages : ℕ → Option ℕ) (frame : ℕ → FrameState) (from : ℕ) → Filled frames pages frame from from pages frame
none_filled frames pages frame from = record {
  fresh = λ j l m e. absurd (omega arith);
  kept = λ j x e. e;
  elsewhere = λ j e. refl;
  others = λ x e. refl;
  count = (let z = count_empty (λ j. is_none (pages j)) from in omega arith);
}

-- an index that isn't in a range with one more is neither in that range nor the one more
wider : (from i j : ℕ) → is_within from (i + 1) j ≡ false → from ≤ i → (is_within from i j ≡ false) × (j ≢ i)
wider from i j e l = (
  grind (arith, nat_tests),
  λ d. (let a : is_within from (i + 1) i ≡ true = grind (arith, nat_tests) in
      let z : true ≡ false = sym a ∙ (ap (is_within from (i + 1)) (sym d) ∙ e) in absurd (cc)),
)

-- an index that has a page is passed
pub fills_same : (frames : ℕ) (pages : ℕ → Option ℕ) (before : ℕ → FrameState) (from i x : ℕ) (after : ℕ → Option ℕ)
    (frame : ℕ → FrameState)
    → from ≤ i → pages i ≡ Some x
    → Filled frames pages before from i after frame → Filled frames pages before from (i + 1) after frame
fills_same frames pages before from i x after frame l e h = record {
  fresh = λ j m o none. elim (same_or_other j i) [
    | inl d ↦ (let z : None ≡ Some x = sym none ∙ (ap pages d ∙ e) in absurd (cc))
    | inr d ↦ h.fresh j m (omega arith) none
  ];
  kept = h.kept;
  elsewhere = λ j d. h.elsewhere j (wider from i j d l).0;
  others = h.others;
  count =
      (let z : count_within (λ j. is_none (pages j)) from (i + 1) ≡ count_within (λ j. is_none (pages j)) from
      i + 0 = count_next (λ j. is_none (pages j)) from i l
      ∙ ap (λ (o : Option ℕ). count_within (λ j. is_none (pages j)) from i + cond (is_none o) 1 0) e in
      let y = h.count in omega arith);
}

-- a free frame is no new page's, and was free before
free_before : (frames : ℕ) (pages : ℕ → Option ℕ) (before : ℕ → FrameState) (from i x : ℕ) (after : ℕ → Option ℕ)
    (frame : ℕ → FrameState)
    → Filled frames pages before from i after frame → frame x ≡ Free → before x ≡ Free
free_before frames pages before from i x after frame h free = sym (h.others x not_new) ∙ free
  where
    not_new : (j : ℕ) → pages j ≡ None → after j ≢ Some x
    not_new j none is = here (is_within from i j) refl
      where
        here : (c : Bool) → is_within from i j ≡ c → ⊥
        here false e = (let z : None ≡ Some x = sym none ∙ (sym (h.elsewhere j e) ∙ is) in absurd (cc))
        here true e =
            let low : from ≤ j = grind (arith, nat_tests) in
            let high : j < i = grind (arith, nat_tests) in
            let y = h.fresh j low high none in
            let same : y.0 ≡ x = some_same (sym y.1 ∙ is) in
            let z : Placed 0 ≡ Free = sym y.3 ∙ (ap frame same ∙ free) in
            absurd (cc)

-- an index gets a page
pub fills_more : (frames : ℕ) (pages : ℕ → Option ℕ) (before : ℕ → FrameState) (from i x : ℕ) (after : ℕ → Option ℕ)
    (frame : ℕ → FrameState)
    → from ≤ i → pages i ≡ None → frame x ≡ Free → ((y : ℕ) → before y ≡ Free → y < frames)
    → Filled frames pages before from i after frame
    → Filled frames pages before from (i + 1) (put after i (Some x)) (put (put frame x Hand) x (Placed 0))
fills_more frames pages before from i x after frame l bare free real h = record {
  fresh = λ j m o none. elim (same_or_other j i) [
    | inl d ↦ (x, ap (put after i (Some x)) d ∙ put_same after i (Some x), was, put_same (put frame x Hand) x (Placed 0))
    | inr d ↦ (let y = h.fresh j m (omega arith) none in (y.0, put_other after i (Some x) j d ∙ y.1, y.2, placed_still y.0 y.3))
  ];
  kept =
      λ j y e. put_other after i (Some x) j
      (λ d. (let z : None ≡ Some y = sym bare ∙ (ap pages (sym d) ∙ e) in absurd (cc))) ∙ h.kept j y e;
  elsewhere = λ j d. let z = wider from i j d l in put_other after i (Some x) j z.1 ∙ h.elsewhere j z.0;
  others = λ y none.
      let other : y ≢ x = λ d. none i bare (put_same after i (Some x) ∙ ap (λ (w : ℕ). Some w) (sym d)) in
      put_other (put frame x Hand) x (Placed 0) y other ∙ (put_other frame x Hand y other ∙ h.others y (λ j e is. elim (same_or_other j i) [
        | inl d ↦ (let out : is_within from i i ≡ false = grind (arith, nat_tests) in
            let z : None ≡ Some y = sym bare ∙ (sym (h.elsewhere i out) ∙ (ap after (sym d) ∙ is)) in absurd (cc))
        | inr d ↦ none j e (put_other after i (Some x) j d ∙ is)
      ]));
  count = (
      let a : free_frames (put frame x (Placed 0)) frames + bit (is_free (frame x)) ≡ free_frames frame frames + 0 =
      free_change frame x frames (Placed 0) (real x was) in
      let c : bit (is_free (frame x)) ≡ 1 = ap (λ (v : FrameState). bit (is_free v)) free in
      let d : free_frames (put (put frame x Hand) x (Placed 0)) frames ≡ free_frames (put frame x (Placed 0)) frames =
      ap (λ (g : ℕ → FrameState). free_frames g frames) (put_put frame x Hand (Placed 0)) in
      let z : count_within (λ j. is_none (pages j)) from (i + 1) ≡ count_within (λ j. is_none (pages j)) from i + 1 =
      count_next (λ j. is_none (pages j)) from i l
      ∙ ap (λ (o : Option ℕ). count_within (λ j. is_none (pages j)) from i + cond (is_none o) 1 0) bare in
      let y = h.count in
      omega arith
      );
}
  where
    was : before x ≡ Free
    was = free_before frames pages before from i x after frame h free

    placed_still : (y : ℕ) → frame y ≡ Placed 0 → put (put frame x Hand) x (Placed 0) y ≡ Placed 0
    placed_still y e = elim (same_or_other y x) [
      | inl d ↦ ap (put (put frame x Hand) x (Placed 0)) d ∙ put_same (put frame x Hand) x (Placed 0)
      | inr d ↦ put_other (put frame x Hand) x (Placed 0) y d ∙ (put_other frame x Hand y d ∙ e)
    ]
