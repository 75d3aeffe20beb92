-- Where frames are, and how many of them, after one goes elsewhere.
use Rattle.std.proofs.Common.{◌≡◌, ◌≢◌, ℕ, suc, ◌+◌, ◌<◌, Bool, true, false, cond, List, length, set}
use Rattle.std.proofs.Common.{Some, slice_get, arith, zero, ap, refl, ◌∙◌, subst, sym}
use Rattle.std.proofs.Common.{true≢false}
use Rattle.std.specs.Prelude.{nat_eq, not}
use Rattle.std.proofs.lemmas.Option.{slice_get_within, get_or_from_slice_get, slice_get-get_or}
use Rattle.std.proofs.lemmas.List.{length-set, get_or-set_same, get_or-set_other}
use Rattle.std.proofs.lemmas.Bool.Decides.{nat_tests}
use Rattle.hp_base.specs.Indices.{count_below}
use Rattle.hp_base.proofs.Counting.{count_below_le, count_below_one, count_below_mono}
use Rattle.hp_base.proofs.Changes.{count_below-at}
use Rattle.hp_frames.specs.declared.frame.FrameState.{FrameState}
use Rattle.hp_frames.specs.declared.frame.FrameState.TheVariants.{Free, Hand, Placed, Retired}
use Rattle.hp_frames.specs.Bank.{BankState, is_free, is_retired, frame_at, count_of}

-- 1 for a frame of which it holds
abbrev pub count_one : (FrameState → Bool) → FrameState → ℕ
count_one p s = cond (p s) 1 0

pub set_same : (xs : List FrameState) (i : ℕ) (s t : FrameState) → slice_get xs i ≡ Some s → slice_get (set xs i t) i ≡ Some t
set_same xs i s t h =
    let within = slice_get_within xs i s h in
    slice_get-get_or (set xs i t) i t (rw length-set within) ∙ ap Some (get_or-set_same xs i t t within)

pub set_other : (xs : List FrameState) (i j : ℕ) (s t : FrameState) → slice_get xs j ≡ Some s → j ≢ i → slice_get (set xs i t) j ≡ Some s
set_other xs i j s t h e =
    slice_get-get_or (set xs i t) j s (rw length-set (slice_get_within xs j s h))
    ∙ ap Some (get_or-set_other xs i j t s e ∙ get_or_from_slice_get xs j s s h)

pub at_same : (fs : List FrameState) (x : ℕ) (t : FrameState) → x < length fs → frame_at (set fs x t) x ≡ t
unfolding frame_at
at_same fs x t within = get_or-set_same fs x t Hand within

pub at_other : (fs : List FrameState) (x j : ℕ) (t : FrameState) → j ≢ x → frame_at (set fs x t) j ≡ frame_at fs j
unfolding frame_at
at_other fs x j t other = get_or-set_other fs x j t Hand other

pub at_is : (fs : List FrameState) (x : ℕ) (s : FrameState) → slice_get fs x ≡ Some s → frame_at fs x ≡ s
unfolding frame_at
at_is fs x s at = get_or_from_slice_get fs x s Hand at

pub is_at : (fs : List FrameState) (x : ℕ) (s : FrameState) → x < length fs → frame_at fs x ≡ s → slice_get fs x ≡ Some s
unfolding frame_at
is_at fs x s within at = slice_get-get_or fs x Hand within ∙ ap Some at

-- a count after one frame goes elsewhere
pub count_after : (p : FrameState → Bool) (fs : List FrameState) (x : ℕ) (s t : FrameState) → slice_get fs x ≡ Some s
    → count_of p (set fs x t) + count_one p s ≡ count_of p fs + count_one p t
unfolding count_of
count_after p fs x s t h =
    let within = slice_get_within fs x s h in
    let n = count_below-at (λ j. p (frame_at fs j)) (λ j. p (frame_at (set fs x t) j)) (length fs) x within
    (λ j other. ap p (at_other fs x j t other)) in
    let is = at_same fs x t within in
    let was = at_is fs x s h in
    let after = count_below (λ j. p (frame_at (set fs x t) j)) (length fs) in
    let before = count_below (λ j. p (frame_at fs j)) (length fs) in
    let now = subst (λ (u : FrameState). after + count_one p (frame_at fs x) ≡ before + count_one p u) is n in
    rw length-set (subst (λ (u : FrameState). after + count_one p u ≡ before + count_one p t) was now)

-- it holds of the one and not of the other
apart : (p : FrameState → Bool) (fs : List FrameState) (x y : ℕ) (s : FrameState) → slice_get fs x ≡ Some s → p s ≡ false
    → p (frame_at fs y) ≡ true → y ≢ x
apart p fs x y s at unlike like same =
    true≢false (sym like ∙ (ap (λ (i : ℕ). p (frame_at fs i)) same ∙ (ap p (at_is fs x s at) ∙ unlike)))

pub free_is : (s : FrameState) → is_free s ≡ true → s ≡ Free
free_is Free like = refl
free_is Hand unlike = absurd (cc)
free_is (Placed word) unlike = absurd (cc)
free_is Retired unlike = absurd (cc)

pub retired_is : (s : FrameState) → is_retired s ≡ true → s ≡ Retired
retired_is Free unlike = absurd (cc)
retired_is Hand unlike = absurd (cc)
retired_is (Placed word) unlike = absurd (cc)
retired_is Retired like = refl

pub every : (n : ℕ) (p : ℕ → Bool) → ((j : ℕ) → j < n → p j ≡ true) → count_below p n ≡ n
unfolding count_below
every zero p all = refl
every (suc n) p all = rw (all n (omega arith), every n p (λ j below. all j (omega arith))) (omega arith)

-- not all frames are such, where one isn't
pub not_all : (p : FrameState → Bool) (fs : List FrameState) (x : ℕ) (s : FrameState) → slice_get fs x ≡ Some s → p s ≡ false
    → count_of p fs < length fs
unfolding count_of
not_all p fs x s at unlike =
    let within = slice_get_within fs x s at in
    let one = count_below_one (λ _. true) (λ j. not (nat_eq j x)) x (length fs) within refl (grind (arith, nat_tests))
    (λ j other. grind (arith, nat_tests, other)) in
    let all = count_below_le (λ _. true) (length fs) in
    let less = count_below_mono (λ j. p (frame_at fs j)) (λ j. not (nat_eq j x)) (length fs)
    (λ j below like. let other = apart p fs x j s at unlike like in grind (arith, nat_tests, other)) in
    omega (arith, one, all, less)

-- the bank as its records tell has that frame there, too
pub same_place : (b now : BankState) (x : ℕ) (s : FrameState) → b ≡ now → slice_get now.frames x ≡ Some s → slice_get b.frames x ≡ Some s
same_place b now x s same at = subst (λ (c : BankState). slice_get c.frames x ≡ Some s) (sym same) at

-- and a frame that is held
pub held_place : (b now : BankState) (frame held : ℕ) → b ≡ now → frame ≡ held → slice_get now.frames held ≡ Some Hand
    → slice_get b.frames frame ≡ Some Hand
held_place b now frame held same is at =
    same_place b now frame Hand same (subst (λ (x : ℕ). slice_get now.frames x ≡ Some Hand) (sym is) at)
