-- Rows that several operations share, and how a row's leaf is reached.
use Rattle.std.proofs.Common.{◌≡◌, ◌≢◌, ℕ, ◌+◌, ◌<◌, ◌≤◌, refl, ap, sym, ◌∙◌, subst, arith}
use Rattle.std.specs.Prelude.{Bool, true, false, not, ◌==◌, Option, Some, None, IfSome, MatchBool, MatchOption}
use Rattle.std.proofs.lemmas.Bool.Decides.{nat_tests}
use Rattle.hp_base.specs.Numbers.{bit}
use Rattle.hp_base.specs.Indices.{is_within, missing, add_range}
use Rattle.hp_base.proofs.Puts.{put_same}
use Rattle.hp_base.proofs.Sets.{missing_one, add_range_has}
use Rattle.hp_region.specs.Change.{Change}
use Rattle.hp_machine.specs.State.{Geometry, State, pool_of, free_frames, frees}
use Rattle.hp_machine.specs.Parts.{is_bad_range}
use Rattle.hp_machine.specs.Views.{ahead, hand, change_in}
use Rattle.hp_machine.specs.declared.call.Call.{Call}
use Rattle.hp_laws.specs.Sweep.{fills, to_pass}
use Rattle.hp_laws.proofs.Deciding.{is_nil, not_nil}
use Rattle.hp_laws.proofs.Standing.{IsOne, Stands}
use Rattle.hp_laws.proofs.Invariant.{Reached, Inv, sweeps, holds, stays, to}
use Rattle.hp_laws.proofs.Effects.{committing}

-- a row by a test is taken apart: by what the test decides
pub by_test : {A B C : Type 0} (b : Bool) → MatchBool b A B → (b ≡ true → A → C) → (b ≡ false → B → C) → C
by_test true m on off = on refl m
by_test false m on off = off refl m

-- and one by an option, by what is there
pub by_option : {A : Type 0} {P : Type 0} {Q : A → Type 0} {C : Type 0} (o : Option A) → MatchOption o P Q → (o ≡ None → P → C)
    → ((a : A) → o ≡ Some a → Q a → C) → C
by_option None m off on = off refl m
by_option (Some a) m off on = on a refl m

-- what holds of no call
pub idle : (g : Geometry) (s : State) (t : ℕ) → Stands g s t None
idle g s t = record { slot = tt; lock = tt; facts = tt }

-- what holds of the call that the row finds
pub stands_at : (s : State) (t : ℕ) (c : Option Call) → Inv s.geometry s → s.calls t ≡ c → Stands s.geometry s t c
stands_at s t c h e = subst (Stands s.geometry s t) e (h.stands t)

-- the index that the call fills is reached
pub reach_at : (s : State) (t : ℕ) (c : Option Call) → Inv s.geometry s → s.calls t ≡ c
    → IfSome (fills c) (λ k. Reached s.size (λ u. to_pass (s.calls u)) k.0 k.1)
reach_at s t c h e = subst (λ d. IfSome (fills d) (λ k. Reached s.size (λ u. to_pass (s.calls u)) k.0 k.1)) e (h.reach t)

-- a call waits where it stands
pub waits : (s : State) (t : ℕ) (c : Option Call) → Inv s.geometry s → t < s.geometry.tasks + 1 → s.calls t ≡ c → Inv s.geometry (to s t c)
waits s t c h l e = stays s.geometry s t c c h l e refl (reach_at s t c h e) (stands_at s t c h e)

-- a call that fills none has nothing to reach
pub no_fill : (s : State) (c : Option Call) → fills c ≡ None → IfSome (fills c) (λ k. Reached s.size (λ u. to_pass (s.calls u)) k.0 k.1)
no_fill s c e = subst (λ (o : Option (ℕ × ℕ)). IfSome o (λ k. Reached s.size (λ u. to_pass (s.calls u)) k.0 k.1)) (sym e) tt

-- a range that passes its check is not empty, and lies within the limit
pub good_range : (s : State) (from len : ℕ) → is_bad_range (pool_of s) from len ≡ false → (1 ≤ len) × (from + len ≤ s.geometry.limit)
good_range s from len e = (grind (arith, nat_tests), grind (arith, nat_tests))

-- what of a call stays through a change
abbrev pub steady : Option Call
    → ((ℕ → ℕ → Bool) × (ℕ → ℕ → Bool) × (ℕ → ℕ → Bool)) × (Option (ℕ × ℕ) × Option ℕ) × Option ℕ
steady c = (sweeps c, holds c, hand c)

-- and through a take
abbrev pub unhanded : Option Call
    → ((ℕ → ℕ → Bool) × (ℕ → ℕ → Bool) × (ℕ → ℕ → Bool)) × (Option (ℕ × ℕ) × Option ℕ) × Option ℕ × ℕ
unhanded c = (sweeps c, holds c, change_in c, ahead c)

-- where the free frames aren't as many as the reserve count, there is one more than that
pub free_left : (s : State) → Inv s.geometry s → (frees (pool_of s) == s.resv) ≡ false → s.resv + 1 ≤ free_frames s.frame s.frames
free_left s h e = let d : free_frames s.frame s.frames ≢ s.resv = differ _ _ e in let z = h.enough in omega arith
  where
    differ : (m n : ℕ) → (m == n) ≡ false → m ≢ n
    differ m n e = grind (arith, nat_tests)

-- the index that a change adds is reserved then
pub own_reserved : (s : State) (f i : ℕ) (change : Change) → IsOne change i → (committing s f change).reserved f i ≡ true
own_reserved s f i change one =
    ap (λ (m : ℕ → Bool). m i) (put_same s.reserved f (add_range (s.reserved f) change.from change.to))
    ∙ add_range_has (s.reserved f) change.from change.to i (inside change.from change.to i one.begins one.ends)
  where
    inside : (from to i : ℕ) → from ≡ i → to ≡ i + 1 → is_within from to i ≡ true
    inside from to i a b = grind (arith, nat_tests)

-- a change of one index misses it exactly where it isn't reserved
pub own_missing : (r : ℕ → Bool) (change : Change) (i : ℕ) → IsOne change i → missing r change.from change.to ≡ bit (not (r i))
own_missing r change i one = ap (λ (k : ℕ). missing r k change.to) one.begins ∙ (ap (missing r i) one.ends ∙ missing_one r i)

-- what a change of one index tells
pub one_change : (r : ℕ → Bool) (i : ℕ)
    → IsOne (record { from = i; to = i + 1; missing = missing r i (i + 1) }) i × ((missing r i (i + 1) == 0) ≡ true → r i ≡ true)
    × ((missing r i (i + 1) == 0) ≡ false → r i ≡ false)
one_change r i =
    let lacks = missing_one r i in (
      record { begins = refl; ends = refl; few = few (r i) _ lacks },
      λ e. has (r i) _ lacks (is_nil _ e),
      λ e. hasnt (r i) _ lacks (not_nil _ e),
    )
  where
    few : (b : Bool) (m : ℕ) → m ≡ bit (not b) → m ≤ 1
    few true m e = omega arith
    few false m e = omega arith

    has : (b : Bool) (m : ℕ) → m ≡ bit (not b) → m ≡ 0 → b ≡ true
    has true m e z = refl
    has false m e z = absurd (omega arith)

    hasnt : (b : Bool) (m : ℕ) → m ≡ bit (not b) → 1 ≤ m → b ≡ false
    hasnt true m e l = absurd (omega arith)
    hasnt false m e l = refl
