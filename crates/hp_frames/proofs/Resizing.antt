-- What becomes of the frames of a bank that grows or shrinks.
use Rattle.std.proofs.Common.{◌≡◌, ◌⊎◌, ℕ, suc, zero, ◌+◌, ◌-◌, ◌<◌, ◌≤◌, Bool, true, false, cond, List, [], ◌∷◌, ◌++◌, length, set, min}
use Rattle.std.proofs.Common.{Some, slice_get, replicate, arith, ap, refl, ◌∙◌, subst, sym, inl, inr, not, append_assoc, append-nil}
use Rattle.std.proofs.lemmas.Option.{slice_get_within}
use Rattle.std.proofs.lemmas.List.{length-set, length-append, length-replicate, replicate-append-replicate}
use Rattle.std.proofs.lemmas.List.{get_or_append_left, get_or-append_right, get_or-replicate, get_or_at}
use Rattle.hp_base.specs.Indices.{count_below}
use Rattle.hp_base.proofs.Counting.{count_below-ext, count_below-sum}
use Rattle.hp_base.proofs.Puts.{same_or_other}
use Rattle.hp_frames.specs.declared.frame.FrameState.{FrameState}
use Rattle.hp_frames.specs.declared.frame.FrameState.TheVariants.{Free, Hand, Retired}
use Rattle.hp_frames.specs.Bank.{is_active, is_free, is_retired, frame_at, count_of, free_frames, retired_frames, active_frames}
use Rattle.hp_frames.specs.Bank.{BankState, with_frame, AreThose, HasGrown, HasShrunk}
use Rattle.hp_frames.proofs.Frames.{at_is, at_other, at_same, count_after, count_one, every}

-- each frame is active or retired
pub active_and_retired : (fs : List FrameState) → length fs ≡ active_frames fs + retired_frames fs
unfolding count_of
active_and_retired fs =
    let all = every (length fs) (λ _. true) (λ j below. refl) in
    let sum = count_below-sum (λ x. is_active (frame_at fs x)) (λ x. is_retired (frame_at fs x)) (λ _. true) (length fs)
    (λ k below. one (is_retired (frame_at fs k))) in
    omega (arith, all, sum)
  where
    one : (b : Bool) → cond true 1 0 ≡ cond (not b) 1 0 + cond b 1 0
    one true = refl
    one false = refl

each_of : (fs : List FrameState) (x : ℕ) (s t : FrameState) → slice_get fs x ≡ Some s → (j : ℕ)
    → (frame_at (set fs x t) j ≡ frame_at fs j) ⊎ ((frame_at fs j ≡ s) × (frame_at (set fs x t) j ≡ t))
each_of fs x s t at j = elim (same_or_other j x) [
  | inl e ↦ inr (
    ap (frame_at fs) e ∙ at_is fs x s at,
    ap (frame_at (set fs x t)) e ∙ at_same fs x t (slice_get_within fs x s at),
  )
  | inr other ↦ inl (at_other fs x j t other)
]

-- a free frame is retired
pub one_retired : (fs new : List FrameState) (x : ℕ) → new ≡ set fs x Retired → slice_get fs x ≡ Some Free
    → HasShrunk fs new 1 × (free_frames new + 1 ≡ free_frames fs)
one_retired fs new x is at =
    let active = count_after is_active fs x Free Retired at in
    let free = count_after is_free fs x Free Retired at in
    rw is (
      record {
        wide = length-set fs x Retired;
        count = omega (arith, active);
        each = λ j below. each_of fs x Free Retired at j;
      },
      omega (arith, free),
    )

-- a retired frame is free again
pub one_back : (fs new : List FrameState) (x : ℕ) → new ≡ set fs x Free → slice_get fs x ≡ Some Retired
    → HasGrown fs new 1 × (retired_frames new + 1 ≡ retired_frames fs)
one_back fs new x is at =
    let active = count_after is_active fs x Retired Free at in
    let retired = count_after is_retired fs x Retired Free at in
    let all = active_and_retired fs in
    let wide = length-set fs x Free in
    rw is (
      record {
        wide = omega (arith, wide, all, retired);
        count = omega (arith, active);
        each = λ j below. each_of fs x Retired Free at j;
        fresh = λ j past below. absurd (omega (arith, wide, past, below));
      },
      omega (arith, retired),
    )

pub none_shrunk : (fs : List FrameState) → HasShrunk fs fs 0
none_shrunk fs = record { wide = refl; count = omega arith; each = λ x below. inl refl }

-- free frames that go once stay away
gone : (s t u : FrameState) → (t ≡ s) ⊎ ((s ≡ Free) × (t ≡ Retired)) → (u ≡ t) ⊎ ((t ≡ Free) × (u ≡ Retired))
    → (u ≡ s) ⊎ ((s ≡ Free) × (u ≡ Retired))
gone s t u (inl first) (inl next) = inl (next ∙ first)
gone s t u (inl first) (inr next) = inr (sym first ∙ next.0, next.1)
gone s t u (inr first) (inl next) = inr (first.0, next ∙ first.1)
gone s t u (inr first) (inr next) = inr (first.0, next.1)

pub more_shrunk : (fs mid new : List FrameState) (k : ℕ) → HasShrunk fs mid k → HasShrunk mid new 1 → HasShrunk fs new (k + 1)
more_shrunk fs mid new k first next = record {
  wide = next.wide ∙ first.wide;
  count = omega (arith, first.count, next.count);
  each = λ x below. gone _ _ _ (first.each x below) (next.each x (omega (arith, first.wide, below)));
}

pub none_grown : (fs : List FrameState) → HasGrown fs fs 0
none_grown fs =
    let all = active_and_retired fs in
    record {
      wide = omega (arith, all);
      count = omega arith;
      each = λ x below. inl refl;
      fresh = λ x past below. absurd (omega (arith, past, below));
    }

-- retired frames that come in stay
came : (s t u : FrameState) → (t ≡ s) ⊎ ((s ≡ Retired) × (t ≡ Free)) → (u ≡ t) ⊎ ((t ≡ Retired) × (u ≡ Free))
    → (u ≡ s) ⊎ ((s ≡ Retired) × (u ≡ Free))
came s t u (inl first) (inl next) = inl (next ∙ first)
came s t u (inl first) (inr next) = inr (sym first ∙ next.0, next.1)
came s t u (inr first) (inl next) = inr (first.0, next ∙ first.1)
came s t u (inr first) (inr next) = inr (first.0, next.1)

-- a new frame stays free
stays_free : (t u : FrameState) → t ≡ Free → (u ≡ t) ⊎ ((t ≡ Retired) × (u ≡ Free)) → u ≡ Free
stays_free t u free (inl same) = same ∙ free
stays_free t u free (inr back) = back.1

pub more_back : (fs mid new : List FrameState) (k : ℕ) → HasGrown fs mid k → HasGrown mid new 1 → k + 1 ≤ retired_frames fs
    → HasGrown fs new (k + 1)
more_back fs mid new k first next few =
    let all = active_and_retired fs in
    record {
      wide = omega (arith, all, first.wide, first.count, next.wide, few);
      count = omega (arith, first.count, next.count);
      each = λ x below. came _ _ _ (first.each x below) (next.each x (omega (arith, first.wide, below)));
      fresh = λ x past below. absurd (omega (arith, all, first.wide, first.count, next.wide, few, past, below));
    }

-- one more frame behind the others
at_left : (fs gs : List FrameState) (x : ℕ) → x < length fs → frame_at (fs ++ gs) x ≡ frame_at fs x
unfolding frame_at
at_left fs gs x below = get_or_append_left fs gs Hand x below

pub at_end : (fs : List FrameState) (s : FrameState) → frame_at (fs ++ s ∷ []) (length fs) ≡ s
unfolding frame_at
at_end fs s = get_or_at fs s [] Hand (length fs) refl

pub count_next : (p : FrameState → Bool) (fs : List FrameState) (s : FrameState) → count_of p (fs ++ s ∷ []) ≡ count_of p fs + count_one p s
unfolding count_of count_below
count_next p fs s =
    let long : length (fs ++ s ∷ []) ≡ suc (length fs) = omega (arith, length-append fs (s ∷ [])) in
    let left = count_below-ext (λ x. p (frame_at (fs ++ s ∷ []) x)) (λ x. p (frame_at fs x)) (length fs)
    (λ x below. ap p (at_left fs (s ∷ []) x below)) in
    let last : cond (p (frame_at (fs ++ s ∷ []) (length fs))) 1 0 ≡ count_one p s = ap (count_one p) (at_end fs s) in
    rw long (omega (arith, left, last))

last_of : (m : ℕ) → replicate (suc m) Free ≡ replicate m Free ++ Free ∷ []
last_of m = ap (λ (n : ℕ). replicate n Free) (suc_is m) ∙ sym (replicate-append-replicate m 1 Free)
  where
    suc_is : (n : ℕ) → suc n ≡ n + 1
    suc_is n = omega arith

more_of : (fs : List FrameState) (m : ℕ) → fs ++ replicate (suc m) Free ≡ (fs ++ replicate m Free) ++ Free ∷ []
more_of fs m = ap (λ (gs : List FrameState). fs ++ gs) (last_of m) ∙ sym (append_assoc fs (replicate m Free) (Free ∷ []))

-- a count of free frames over so many new ones
pub count_like : (p : FrameState → Bool) (fs : List FrameState) (m : ℕ) → p Free ≡ true → count_of p (fs ++ replicate m Free) ≡ count_of p fs + m
count_like p fs zero like =
    let same : count_of p (fs ++ replicate 0 Free) ≡ count_of p fs = ap (count_of p) (append-nil fs) in
    omega (arith, same)
count_like p fs (suc m) like =
    let before = count_like p fs m like in
    let next = ap (count_of p) (more_of fs m) ∙ count_next p (fs ++ replicate m Free) Free in
    let one : count_one p Free ≡ 1 = ap {B = ℕ} (λ (b : Bool). cond b 1 0) like in
    omega (arith, before, next, one)

-- a count of others doesn't change with them
pub count_unlike : (p : FrameState → Bool) (fs : List FrameState) (m : ℕ) → p Free ≡ false → count_of p (fs ++ replicate m Free) ≡ count_of p fs
count_unlike p fs zero unlike = ap (count_of p) (append-nil fs)
count_unlike p fs (suc m) unlike =
    let before = count_unlike p fs m unlike in
    let next = ap (count_of p) (more_of fs m) ∙ count_next p (fs ++ replicate m Free) Free in
    let one : count_one p Free ≡ 0 = ap {B = ℕ} (λ (b : Bool). cond b 1 0) unlike in
    omega (arith, before, next, one)

-- frames that are listed stay so with others behind them
pub those_left : (p : FrameState → Bool) (fs gs : List FrameState) (xs : List ℕ) → AreThose p fs xs → AreThose p (fs ++ gs) xs
those_left p fs gs [] those = tt
those_left p fs gs (x ∷ xs) those =
    let below = those.0 in
    let long = length-append fs gs in
    (omega (arith, below, long), ap p (at_left fs gs x below) ∙ those.1, those.2, those_left p fs gs xs those.3)

-- how many frames there are with so many new ones
pub wider_count : (fs new : List FrameState) (m : ℕ) → new ≡ fs ++ replicate m Free → length new ≡ length fs + m
wider_count fs new m is =
    ap length is ∙ (length-append fs (replicate m Free) ∙ ap (λ (n : ℕ). length fs + n) (length-replicate m Free))

at_new : (fs : List FrameState) (m x : ℕ) → length fs ≤ x → x < length fs + m → frame_at (fs ++ replicate m Free) x ≡ Free
unfolding frame_at
at_new fs m x past below =
    get_or-append_right fs (replicate m Free) (length fs) x Hand refl past ∙ get_or-replicate m (x - length fs) Free Hand (omega (arith, past, below))

-- new numbers and the retired ones that come back are what a bank grows by
pub wider_grown : (fs new : List FrameState) (k back : ℕ) → back ≡ min k (retired_frames fs)
    → HasGrown (fs ++ replicate (k - back) Free) new back → HasGrown fs new k
wider_grown fs new k back all grown =
    let long = length-append fs (replicate (k - back) Free) in
    let many = length-replicate (k - back) Free in
    let active = count_like is_active fs (k - back) refl in
    let sum = active_and_retired fs in
    let wide = grown.wide in
    let count = grown.count in
    record {
      wide = omega (arith, long, many, active, sum, wide, all);
      count = omega (arith, active, count, all);
      each = λ x below. subst
          (λ (s : FrameState). (frame_at new x ≡ s) ⊎ ((s ≡ Retired) × (frame_at new x ≡ Free)))
          (at_left fs (replicate (k - back) Free) x below)
          (grown.each x (omega (arith, long, below)));
      fresh = λ x past below.
          let inside : x < length fs + (k - back) = omega (arith, long, many, active, sum, wide, all, below) in
          stays_free _ _ (at_new fs (k - back) x past inside) (grown.each x (omega (arith, long, many, inside)));
    }

-- one frame elsewhere, and the rest as it was
pub same_rest : (was mid new : BankState) (x : ℕ) (s : FrameState) → new ≡ with_frame mid x s → mid ≡ record was { frames = mid.frames }
    → new ≡ record was { frames = new.frames }
same_rest was mid new x s after rest =
    after ∙ (ap (λ (fs : List FrameState). record mid { frames = fs }) (sym (ap (λ (b : BankState). b.frames) after))
    ∙ ap (λ (b : BankState). record b { frames = new.frames }) rest)
