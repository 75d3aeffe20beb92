-- The reserved indices without a page that a call counts on: each has one call at most.
use Rattle.std.proofs.Common.{◌≡◌, ℕ, ◌+◌, ◌≤◌, refl, ap, sym, ◌∙◌, subst, arith, inl, inr, ◌⊎◌}
use Rattle.std.specs.Prelude.{Bool, true, false, Option, Some, None, IfSome, ◌==◌, ◌&&◌, nat_le, nat_lt}
use Rattle.std.proofs.lemmas.Bool.Decides.{nat_tests}
use Rattle.hp_base.proofs.Puts.{same_or_other}
use Rattle.hp_machine.specs.State.{Geometry, State, slot_of}
use Rattle.hp_base.specs.Mappings.{is_there}
use Rattle.hp_machine.specs.Views.{locked_file}
use Rattle.hp_machine.specs.declared.touch.TouchPhase.TheVariants as touch
use Rattle.hp_machine.specs.declared.alloc.AllocPhase.TheVariants as alloc
use Rattle.hp_machine.specs.declared.punch.PunchPhase.TheVariants as punch
use Rattle.hp_machine.specs.declared.truncate.TruncatePhase.TheVariants as truncate
use Rattle.hp_machine.specs.declared.call.Call.{Call}
use Rattle.hp_machine.specs.declared.call.Call.TheVariants as call
use Rattle.hp_laws.specs.Sweep.{fills, to_pass, passed}
use Rattle.hp_laws.proofs.Deciding.{same_of, never, some_same}
use Rattle.hp_laws.proofs.Standing.{HasSlot, HasLock, Stands}
use Rattle.hp_laws.proofs.Invariant.{Reached, Inv}
use Rattle.hp_laws.proofs.Passing.{locks_file, passed_locked, reached_not_passed, same_holder}

-- the value where the test holds, else nothing
abbrev pub only_if : {A : Type 0} → Bool → A → Option A
only_if true x = Some x
only_if false x = None

-- the one index that a call knows to be reserved, and where it makes a page or took one away
abbrev pub counts_at : Option Call → Option (ℕ × ℕ)
counts_at (Some (call.Touch (touch.Changed p))) = only_if (p.pending.missing == 0) (p.touch.file, p.touch.index)
counts_at (Some (call.Touch (touch.Taken p))) = only_if (p.pending.missing == 0) (p.touch.file, p.touch.index)
counts_at (Some (call.Touch (touch.Settle p))) = Some (p.touch.file, p.touch.index)
counts_at (Some (call.Touch (touch.Committed p))) = Some (p.touch.file, p.touch.index)
counts_at (Some (call.Touch (touch.Restore p))) = Some (p.touch.file, p.touch.index)
counts_at (Some (call.Alloc (alloc.Changed p))) = only_if (p.pending.missing == 0) (p.allocation.file, p.index)
counts_at (Some (call.Alloc (alloc.Taken p))) = only_if (p.pending.missing == 0) (p.allocation.file, p.index)
counts_at (Some (call.Alloc (alloc.Settle p))) = Some (p.allocation.file, p.index)
counts_at (Some (call.Alloc (alloc.Committed p))) = Some (p.allocation.file, p.index)
counts_at (Some (call.Alloc (alloc.Restore p))) = Some (p.allocation.file, p.index)
counts_at (Some (call.Punch (punch.Delete p))) = Some (p.hole.file, p.index)
counts_at (Some (call.Punch (punch.Free p))) = only_if p.denied (p.hole.file, p.index)
counts_at other = None

-- the file, and the index from which on a truncation took pages out
abbrev pub tail_from : Option Call → Option (ℕ × ℕ)
tail_from (Some (call.Truncate (truncate.Want p))) = Some (p.truncation.file, p.index + 1)
tail_from (Some (call.Truncate (truncate.Locked p))) = Some (p.truncation.file, p.index + 1)
tail_from (Some (call.Truncate (truncate.Unmap p))) = Some (p.truncation.file, p.index + 1)
tail_from (Some (call.Truncate (truncate.Evict p))) = Some (p.truncation.file, p.index + 1)
tail_from (Some (call.Truncate (truncate.Free p))) = Some (p.truncation.file, p.index)
tail_from (Some (call.Truncate (truncate.Unslot p))) = Some (p.truncation.file, p.index)
tail_from (Some (call.Truncate (truncate.Tail p))) = Some (p.truncation.file, p.truncation.new)
tail_from other = None

-- the index is reserved, and in the tail that begins there
abbrev in_tail : Option (ℕ × ℕ) → (ℕ → ℕ → Bool) → (file index : ℕ) → Bool
in_tail None r f j = false
in_tail (Some k) r f j = (k.0 == f) && (nat_le k.1 j && r f j)

-- the call counts on that index
abbrev pub claim : (ℕ → ℕ → Bool) → Option Call → (file index : ℕ) → Bool
claim r (Some (call.Truncate p)) f j = in_tail (tail_from (Some (call.Truncate p))) r f j
claim r c f j = is_there (counts_at c) f j

-- the parts of a conjunction of tests: the first
and_left : (a b : Bool) → (a && b) ≡ true → a ≡ true
and_left true b e = refl
and_left false b e = (let d : false ≡ true = e in cc)

-- and the second
and_right : (a b : Bool) → (a && b) ≡ true → b ≡ true
and_right true b e = e
and_right false b e = (let d : false ≡ true = e in absurd (cc))

-- where the test for an index holds, the option is that index
there_is : (o : Option (ℕ × ℕ)) (f j : ℕ) → is_there o f j ≡ true → o ≡ Some (f, j)
there_is None f j e = (let d : false ≡ true = e in cc)
there_is (Some k) f j e =
    let a : k.0 ≡ f = same_of k.0 f (and_left (k.0 == f) (k.1 == j) e) in
    let b : k.1 ≡ j = same_of k.1 j (and_right (k.0 == f) (k.1 == j) e) in
    ap (λ (m : ℕ). Some (m, k.1)) a ∙ ap (λ (m : ℕ). Some (f, m)) b

-- what is there under a test, is there because the test holds
only_of : (b : Bool) (x k : ℕ × ℕ) → only_if b x ≡ Some k → (b ≡ true) × (x ≡ k)
only_of true x k e = (refl, some_same e)
only_of false x k e = (let d : ◌≡◌ {A = Option (ℕ × ℕ)} None (Some k) = e in absurd (cc))

-- how the call has its one index to itself
record CountsAt (g : Geometry) (s : State) (t : ℕ) (c : Option Call) (k : ℕ × ℕ) : Type 0 where
  marked : s.reserved k.0 k.1 ≡ true
  bare : s.pages k.0 k.1 ≡ None
  slot : HasSlot g s t k.0 k.1
  who : (fills c ≡ Some k) ⊎ HasLock s t k.0

-- where a call counts on an index, its facts say that the index is reserved and bare and who holds it
counted : (g : Geometry) (s : State) (t : ℕ) (c : Option Call) (k : ℕ × ℕ) → Stands g s t c → counts_at c ≡ Some k → CountsAt g s t c k
counted g s t (Some (call.Touch (touch.Changed p))) k h e =
    let o = only_of (p.pending.missing == 0) (p.touch.file, p.touch.index) k e in
    subst (CountsAt g s t (Some (call.Touch (touch.Changed p)))) o.1
    (record { marked = h.facts.marked o.0; bare = h.facts.bare; slot = h.slot; who = inl refl })
counted g s t (Some (call.Touch (touch.Taken p))) k h e =
    let o = only_of (p.pending.missing == 0) (p.touch.file, p.touch.index) k e in
    subst (CountsAt g s t (Some (call.Touch (touch.Taken p)))) o.1
    (record { marked = h.facts.marked o.0; bare = h.facts.bare; slot = h.slot; who = inl refl })
counted g s t (Some (call.Touch (touch.Settle p))) k h e =
    subst (CountsAt g s t (Some (call.Touch (touch.Settle p)))) (some_same e)
    (record { marked = h.facts.marked; bare = h.facts.bare; slot = h.slot; who = inl refl })
counted g s t (Some (call.Touch (touch.Committed p))) k h e =
    subst (CountsAt g s t (Some (call.Touch (touch.Committed p)))) (some_same e)
    (record { marked = h.facts.marked; bare = h.facts.bare; slot = h.slot; who = inl refl })
counted g s t (Some (call.Touch (touch.Restore p))) k h e =
    subst (CountsAt g s t (Some (call.Touch (touch.Restore p)))) (some_same e)
    (record { marked = h.facts.marked; bare = h.facts.bare; slot = h.slot; who = inl refl })
counted g s t (Some (call.Alloc (alloc.Changed p))) k h e =
    let o = only_of (p.pending.missing == 0) (p.allocation.file, p.index) k e in
    subst (CountsAt g s t (Some (call.Alloc (alloc.Changed p)))) o.1
    (record { marked = h.facts.marked o.0; bare = h.facts.bare; slot = h.slot; who = inr h.lock })
counted g s t (Some (call.Alloc (alloc.Taken p))) k h e =
    let o = only_of (p.pending.missing == 0) (p.allocation.file, p.index) k e in
    subst (CountsAt g s t (Some (call.Alloc (alloc.Taken p)))) o.1
    (record { marked = h.facts.marked o.0; bare = h.facts.bare; slot = h.slot; who = inr h.lock })
counted g s t (Some (call.Alloc (alloc.Settle p))) k h e = absurd h.facts
counted g s t (Some (call.Alloc (alloc.Committed p))) k h e =
    subst (CountsAt g s t (Some (call.Alloc (alloc.Committed p)))) (some_same e)
    (record { marked = h.facts.marked; bare = h.facts.bare; slot = h.slot; who = inr h.lock })
counted g s t (Some (call.Alloc (alloc.Restore p))) k h e =
    subst (CountsAt g s t (Some (call.Alloc (alloc.Restore p)))) (some_same e)
    (record { marked = h.facts.marked; bare = h.facts.bare; slot = h.slot; who = inr h.lock })
counted g s t (Some (call.Punch (punch.Delete p))) k h e =
    subst (CountsAt g s t (Some (call.Punch (punch.Delete p)))) (some_same e)
    (record { marked = h.facts.marked; bare = h.facts.bare; slot = h.slot; who = inr h.lock })
counted g s t (Some (call.Punch (punch.Free p))) k h e =
    let o = only_of p.denied (p.hole.file, p.index) k e in
    subst (CountsAt g s t (Some (call.Punch (punch.Free p)))) o.1
    (record { marked = h.facts.marked o.0; bare = h.facts.bare; slot = h.slot; who = inr h.lock })
counted g s t c k h e = (let d : ◌≡◌ {A = Option (ℕ × ℕ)} None (Some k) = e in absurd (cc))

-- how a call that counts on an index has it to itself
abbrev Owns : Geometry → State → ℕ → Option Call → ℕ → ℕ → Type 0
Owns g s t c f j =
    (HasSlot g s t f j × ((fills c ≡ Some (f, j)) ⊎ HasLock s t f)) ⊎ (HasLock s t f × ((passed c f j ≡ true) ⊎ HasSlot g s t f j))

-- what a claim means
pub record Claimed (g : Geometry) (s : State) (t : ℕ) (c : Option Call) (f j : ℕ) : Type 0 where
  pub marked : s.reserved f j ≡ true
  pub bare : s.pages f j ≡ None
  pub owns : Owns g s t c f j

-- so a claim by the one index is what a claim means
by_index : (g : Geometry) (s : State) (t : ℕ) (c : Option Call) (f j : ℕ) → Stands g s t c → is_there (counts_at c) f j ≡ true
    → Claimed g s t c f j
by_index g s t c f j h e =
    let o = counted g s t c (f, j) h (there_is (counts_at c) f j e) in
    record { marked = o.marked; bare = o.bare; owns = inl (o.slot, o.who) }

-- what the test for a tail says: the file, the place, and that the index is reserved
tail_claim : (k f from j : ℕ) (r : Bool) → ((k == f) && (nat_le from j && r)) ≡ true → (k ≡ f) × (from ≤ j) × (r ≡ true)
tail_claim k f from j r e =
    let a = and_right (k == f) _ e in
    (same_of k f (and_left (k == f) _ e), from_on (and_left (nat_le from j) r a), and_right (nat_le from j) r a)
  where
    from_on : nat_le from j ≡ true → from ≤ j
    from_on e = grind (arith, nat_tests)

-- an index above another of its file passes the test for that
above : (k f i j : ℕ) → k ≡ f → i + 1 ≤ j → ((k == f) && nat_lt i j) ≡ true
above k f i j d l = grind (arith, nat_tests)

-- and one from another on the test for this
on_from : (k f i j : ℕ) → k ≡ f → i ≤ j → ((k == f) && nat_le i j) ≡ true
on_from k f i j d l = grind (arith, nat_tests)

-- an index that a truncation passed and that is reserved is claimed by it: it has no page, and the lock is held
by_passed : (g : Geometry) (s : State) (t : ℕ) (c : Option Call) (f j : ℕ) → Inv g s → s.calls t ≡ c → passed c f j ≡ true
    → s.reserved f j ≡ true → Claimed g s t c f j
by_passed g s t c f j h e p r = record {
  marked = r;
  bare = (h.sweep.past t f j (ap (λ (m : Option Call). passed m f j) e ∙ p)).0;
  owns = inr (locks_file g s t f h (ap locked_file e ∙ passed_locked c f j p), inl p);
}

-- at the index where it stands, or above
by_place : (g : Geometry) (s : State) (t k i : ℕ) (c : Option Call) (f j : ℕ) → Inv g s → s.calls t ≡ c
    → (k ≡ f) × (i ≤ j) × (s.reserved f j ≡ true)
    → HasSlot g s t k i → s.pages k i ≡ None → HasLock s t k → (k ≡ f → i + 1 ≤ j → passed c f j ≡ true) → Claimed g s t c f j
by_place g s t k i c f j h e o held bare locked above_it = elim (same_or_other j i) [
  | inl d ↦ record {
    marked = o.2;
    bare = ap (s.pages f) d ∙ (ap (λ (m : ℕ). s.pages m i) (sym o.0) ∙ bare);
    owns =
        inr (
          ap s.locks (sym o.0) ∙ locked,
          inr (ap (λ (m : ℕ). s.slots (slot_of g f m)) d ∙ (ap (λ (m : ℕ). s.slots (slot_of g m i)) (sym o.0) ∙ held)),
        );
  }
  | inr d ↦ by_passed g s t c f j h e (above_it o.0 (let z = o.1 in omega arith)) o.2
]

-- a claim means in each phase that the index is reserved, bare, and the call's own
pub claimed : (g : Geometry) (s : State) (t : ℕ) (c : Option Call) (f j : ℕ) → Inv g s → s.calls t ≡ c → Stands g s t c
    → claim s.reserved c f j ≡ true → Claimed g s t c f j
claimed g s t (Some (call.Truncate (truncate.Start p))) f j h e y q = never q
claimed g s t (Some (call.Truncate (truncate.Size p))) f j h e y q = never q
claimed g s t (Some (call.Truncate (truncate.Want p))) f j h e y q =
    let o = tail_claim p.truncation.file f (p.index + 1) j _ q in
    by_passed g s t _ f j h e (above p.truncation.file f p.index j o.0 o.1) o.2
claimed g s t (Some (call.Truncate (truncate.Locked p))) f j h e y q =
    let o = tail_claim p.truncation.file f (p.index + 1) j _ q in
    by_passed g s t _ f j h e (above p.truncation.file f p.index j o.0 o.1) o.2
claimed g s t (Some (call.Truncate (truncate.Unmap p))) f j h e y q =
    let o = tail_claim p.truncation.file f (p.index + 1) j _ q in
    by_passed g s t _ f j h e (above p.truncation.file f p.index j o.0 o.1) o.2
claimed g s t (Some (call.Truncate (truncate.Evict p))) f j h e y q =
    let o = tail_claim p.truncation.file f (p.index + 1) j _ q in
    by_passed g s t _ f j h e (above p.truncation.file f p.index j o.0 o.1) o.2
claimed g s t (Some (call.Truncate (truncate.Free p))) f j h e y q =
    by_place g s t p.truncation.file p.index _ f j h e (tail_claim p.truncation.file f p.index j _ q) y.slot
    y.facts.bare y.lock (λ a b. above p.truncation.file f p.index j a b)
claimed g s t (Some (call.Truncate (truncate.Unslot p))) f j h e y q =
    by_place g s t p.truncation.file p.index _ f j h e (tail_claim p.truncation.file f p.index j _ q) y.slot
    y.facts.bare y.lock (λ a b. above p.truncation.file f p.index j a b)
claimed g s t (Some (call.Truncate (truncate.Tail p))) f j h e y q =
    let o = tail_claim p.truncation.file f p.truncation.new j _ q in
    by_passed g s t _ f j h e (on_from p.truncation.file f p.truncation.new j o.0 o.1) o.2
claimed g s t (Some (call.Truncate (truncate.Settle p))) f j h e y q = never q
claimed g s t (Some (call.Truncate (truncate.Leave p))) f j h e y q = never q
claimed g s t None f j h e y q = never q
claimed g s t (Some (call.Touch p)) f j h e y q = by_index g s t _ f j y q
claimed g s t (Some (call.Map p)) f j h e y q = by_index g s t _ f j y q
claimed g s t (Some (call.Alloc p)) f j h e y q = by_index g s t _ f j y q
claimed g s t (Some (call.Punch p)) f j h e y q = by_index g s t _ f j y q
claimed g s t (Some (call.Unmap p)) f j h e y q = by_index g s t _ f j y q
claimed g s t (Some (call.Exit p)) f j h e y q = by_index g s t _ f j y q

-- no truncation has passed an index which a touch fills
fills_not_passed : {P : Type 0} (g : Geometry) (s : State) (t u f j : ℕ) → Inv g s → fills (s.calls t) ≡ Some (f, j)
    → passed (s.calls u) f j ≡ true → P
fills_not_passed g s t u f j h a p =
    absurd (reached_not_passed g s f j h
    (subst (λ (o : Option (ℕ × ℕ)). IfSome o (λ k. Reached s.size (λ w. to_pass (s.calls w)) k.0 k.1)) a (h.reach t)) u p)

-- two calls never count on one index
pub once : (g : Geometry) (s : State) (t u f j : ℕ) → Inv g s → Claimed g s t (s.calls t) f j → Claimed g s u (s.calls u) f j → t ≡ u
once g s t u f j h a b = elim a.owns [
  | inl x ↦ elim b.owns [
    | inl y ↦ same_holder t u (s.slots (slot_of g f j)) x.0 y.0
    | inr y ↦ elim y.1 [
      | inr q ↦ same_holder t u (s.slots (slot_of g f j)) x.0 q
      | inl q ↦ elim x.1 [ inl r ↦ fills_not_passed g s t u f j h r q | inr r ↦ same_holder t u (s.locks f) r y.0 ]
    ]
  ]
  | inr x ↦ elim b.owns [
    | inr y ↦ same_holder t u (s.locks f) x.0 y.0
    | inl y ↦ elim x.1 [
      | inr q ↦ same_holder t u (s.slots (slot_of g f j)) q y.0
      | inl q ↦ elim y.1 [ inl r ↦ fills_not_passed g s u t f j h r q | inr r ↦ same_holder t u (s.locks f) x.0 r ]
    ]
  ]
]
