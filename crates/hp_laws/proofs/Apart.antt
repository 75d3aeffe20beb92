-- Calls that hold frames stand apart, and what a truncation passed stays bare.
use Rattle.std.proofs.Common.{◌≡◌, ◌≢◌, ℕ, ◌+◌, ◌≤◌, ◌<◌, refl, ap, sym, ◌∙◌, subst, arith, inl, inr, ◌⊎◌}
use Rattle.std.specs.Prelude.{true, false, Option, Some, None, IfSome}
use Rattle.hp_base.proofs.Totals.{total_same, total_none}
use Rattle.hp_frames.specs.Bank.{is_in_hand}
use Rattle.hp_machine.specs.State.{Geometry, State, slot_of}
use Rattle.hp_machine.specs.Headline.{Place, Free, Hand, Page, Retired, IsAt}
use Rattle.hp_machine.specs.Events.{IsReached}
use Rattle.hp_machine.specs.Views.{hand, opens, slot_held, locked_file}
use Rattle.hp_machine.specs.declared.touch.TouchPhase.TheVariants as touch
use Rattle.hp_machine.specs.declared.alloc.AllocPhase.TheVariants as alloc
use Rattle.hp_machine.specs.declared.punch.PunchPhase.TheVariants as punch
use Rattle.hp_machine.specs.declared.truncate.TruncatePhase.TheVariants as truncate
use Rattle.hp_machine.specs.declared.map.MapPhase.TheVariants as map
use Rattle.hp_machine.specs.declared.unmap.UnmapPhase.TheVariants as unmap
use Rattle.hp_machine.specs.declared.exit.ExitPhase.TheVariants as exit
use Rattle.hp_machine.specs.declared.call.Call.{Call}
use Rattle.hp_machine.specs.declared.call.Call.TheVariants as call
use Rattle.hp_laws.specs.Enough.{CanSettle}
use Rattle.hp_laws.specs.Protocol.{ChangesAreCalls, SparesSuffice, PagesAreReserved, LiesWithin, is_bare, HandsApart}
use Rattle.hp_laws.specs.Protocol.{IsAtRest, HoldsNothing}
use Rattle.hp_laws.specs.Protocol.{BareWhereMade, works_at, PassedIsBare}
use Rattle.hp_laws.specs.Sweep.{fills, to_pass}
use Rattle.hp_laws.proofs.Deciding.{some_same}
use Rattle.hp_laws.proofs.Standing.{Stands}
use Rattle.hp_laws.proofs.Invariant.{Reached, Inv, page_within}
use Rattle.hp_laws.proofs.Passing.{holds_slot, locks_file, passed_locked, reached_not_passed, same_holder}
use Rattle.hp_laws.proofs.Removals.{page_marked}
use Rattle.hp_laws.proofs.Cover.{can_settle}
use Rattle.hp_laws.proofs.Runs.{Always, always}

-- in every reached state a call finds in the count what its next step takes from it
pub never_short : (s : State) (t : ℕ) → IsReached s → t ≤ s.geometry.tasks → CanSettle s (s.calls t)
never_short s t reached l = let h = (always s reached).inv in can_settle s.geometry s t (s.calls t) h (omega arith) refl (h.stands t)

-- each file has as many changes pending as calls that have one open there
pub changes_are_calls : (s : State) → IsReached s → ChangesAreCalls s
changes_are_calls s reached = (always s reached).inv.changes

-- and a spare descriptor for each
pub spares_suffice : (s : State) → IsReached s → SparesSuffice s
spares_suffice s reached = (always s reached).inv.spares

-- an index that has a page is reserved
pub pages_are_reserved : (s : State) → IsReached s → PagesAreReserved s
pages_are_reserved s reached f i x e = page_marked s.geometry s f i x (always s reached).inv e

-- what is reserved or has a page lies below the limit, in a file that is there
pub lies_within : (s : State) → IsReached s → LiesWithin s
lies_within s reached =
    let h = (always s reached).inv in
    record { reserved = h.inside.within; cached = λ f i x e. page_within f i x h.inside e }

-- a call with a frame in its hand holds a slot
hand_slot : (c : Option Call) (x : ℕ) → hand c ≡ Some x → (k : ℕ × ℕ) × (slot_held c ≡ Some k)
hand_slot (Some (call.Touch (touch.Taken p))) x e = ((p.touch.file, p.touch.index), refl)
hand_slot (Some (call.Touch (touch.Settle p))) x e = ((p.touch.file, p.touch.index), refl)
hand_slot (Some (call.Touch (touch.Committed p))) x e = ((p.touch.file, p.touch.index), refl)
hand_slot (Some (call.Touch (touch.Restore p))) x e = ((p.touch.file, p.touch.index), refl)
hand_slot (Some (call.Alloc (alloc.Taken p))) x e = ((p.allocation.file, p.index), refl)
hand_slot (Some (call.Alloc (alloc.Settle p))) x e = ((p.allocation.file, p.index), refl)
hand_slot (Some (call.Alloc (alloc.Committed p))) x e = ((p.allocation.file, p.index), refl)
hand_slot (Some (call.Alloc (alloc.Restore p))) x e = ((p.allocation.file, p.index), refl)
hand_slot (Some (call.Punch (punch.Delete p))) x e = ((p.hole.file, p.index), refl)
hand_slot (Some (call.Punch (punch.Free p))) x e = ((p.hole.file, p.index), refl)
hand_slot (Some (call.Truncate (truncate.Free p))) x e = ((p.truncation.file, p.index), refl)
hand_slot (Some (call.Map (map.Start _))) x e = (let d : ◌≡◌ {A = Option ℕ} None (Some x) = e in absurd (cc))
hand_slot (Some (call.Unmap (unmap.Start _))) x e = (let d : ◌≡◌ {A = Option ℕ} None (Some x) = e in absurd (cc))
hand_slot (Some (call.Exit exit.Start)) x e = (let d : ◌≡◌ {A = Option ℕ} None (Some x) = e in absurd (cc))
hand_slot c x e = (let d : ◌≡◌ {A = Option ℕ} None (Some x) = e in absurd (cc))

-- two calls with a frame in hand hold the slots of different indices, for a slot has one holder
pub hands_kept_apart : (s : State) → Always s → HandsApart s
hands_kept_apart s kept t u x y d a b =
    let h = kept.inv in
    let k = hand_slot (s.calls t) x a in
    let j = hand_slot (s.calls u) y b in (
      k.0,
      j.0,
      k.1,
      j.1,
      λ e. d (same_holder t u (s.slots (slot_of s.geometry k.0.0 k.0.1)) (holds_slot s.geometry s t k.0 h k.1)
          (ap (λ (m : ℕ × ℕ). s.slots (slot_of s.geometry m.0 m.1)) e ∙ holds_slot s.geometry s u j.0 h j.1)),
    )

-- so in every reached state
pub hands_apart : (s : State) → IsReached s → HandsApart s
hands_apart s reached = hands_kept_apart s (always s reached)

-- where a call's phase says that the index whose slot it holds has no page, it has none
bare_at : (g : Geometry) (s : State) (t : ℕ) (c : Option Call) (k : ℕ × ℕ) → Stands g s t c → is_bare c ≡ true
    → slot_held c ≡ Some k → s.pages k.0 k.1 ≡ None
bare_at g s t (Some (call.Touch (touch.Missing p))) k h b e = subst (λ (m : ℕ × ℕ). s.pages m.0 m.1 ≡ None) (some_same e) h.facts.bare
bare_at g s t (Some (call.Touch (touch.Changed p))) k h b e = subst (λ (m : ℕ × ℕ). s.pages m.0 m.1 ≡ None) (some_same e) h.facts.bare
bare_at g s t (Some (call.Touch (touch.Abort p))) k h b e = subst (λ (m : ℕ × ℕ). s.pages m.0 m.1 ≡ None) (some_same e) h.facts.bare
bare_at g s t (Some (call.Touch (touch.Taken p))) k h b e = subst (λ (m : ℕ × ℕ). s.pages m.0 m.1 ≡ None) (some_same e) h.facts.bare
bare_at g s t (Some (call.Touch (touch.Settle p))) k h b e = subst (λ (m : ℕ × ℕ). s.pages m.0 m.1 ≡ None) (some_same e) h.facts.bare
bare_at g s t (Some (call.Touch (touch.Committed p))) k h b e = subst (λ (m : ℕ × ℕ). s.pages m.0 m.1 ≡ None) (some_same e) h.facts.bare
bare_at g s t (Some (call.Touch (touch.Restore p))) k h b e = subst (λ (m : ℕ × ℕ). s.pages m.0 m.1 ≡ None) (some_same e) h.facts.bare
bare_at g s t (Some (call.Alloc (alloc.Missing p))) k h b e = subst (λ (m : ℕ × ℕ). s.pages m.0 m.1 ≡ None) (some_same e) h.facts.bare
bare_at g s t (Some (call.Alloc (alloc.Changed p))) k h b e = subst (λ (m : ℕ × ℕ). s.pages m.0 m.1 ≡ None) (some_same e) h.facts.bare
bare_at g s t (Some (call.Alloc (alloc.Abort p))) k h b e = subst (λ (m : ℕ × ℕ). s.pages m.0 m.1 ≡ None) (some_same e) h.facts.bare
bare_at g s t (Some (call.Alloc (alloc.Taken p))) k h b e = subst (λ (m : ℕ × ℕ). s.pages m.0 m.1 ≡ None) (some_same e) h.facts.bare
bare_at g s t (Some (call.Alloc (alloc.Settle p))) k h b e = absurd h.facts
bare_at g s t (Some (call.Alloc (alloc.Committed p))) k h b e = subst (λ (m : ℕ × ℕ). s.pages m.0 m.1 ≡ None) (some_same e) h.facts.bare
bare_at g s t (Some (call.Alloc (alloc.Restore p))) k h b e = subst (λ (m : ℕ × ℕ). s.pages m.0 m.1 ≡ None) (some_same e) h.facts.bare
bare_at g s t (Some (call.Punch (punch.Delete p))) k h b e = subst (λ (m : ℕ × ℕ). s.pages m.0 m.1 ≡ None) (some_same e) h.facts.bare
bare_at g s t (Some (call.Punch (punch.Free p))) k h b e = subst (λ (m : ℕ × ℕ). s.pages m.0 m.1 ≡ None) (some_same e) h.facts.bare
bare_at g s t (Some (call.Truncate (truncate.Free p))) k h b e = subst (λ (m : ℕ × ℕ). s.pages m.0 m.1 ≡ None) (some_same e) h.facts.bare
bare_at g s t (Some (call.Truncate (truncate.Unslot p))) k h b e = subst (λ (m : ℕ × ℕ). s.pages m.0 m.1 ≡ None) (some_same e) h.facts.bare
bare_at g s t (Some (call.Map (map.Start _))) k h b e = (let d : false ≡ true = b in absurd (cc))
bare_at g s t (Some (call.Unmap (unmap.Start _))) k h b e = (let d : false ≡ true = b in absurd (cc))
bare_at g s t (Some (call.Exit exit.Start)) k h b e = (let d : false ≡ true = b in absurd (cc))
bare_at g s t c k h b e = (let d : false ≡ true = b in absurd (cc))

-- so in each state that keeps what every event keeps
pub bare_made : (s : State) → Always s → BareWhereMade s
bare_made s h t k b e = bare_at s.geometry s t (s.calls t) k (h.inv.stands t) b e

-- and in every reached one: a page is made, or was taken away, only where there is none
pub bare_where_made : (s : State) → IsReached s → BareWhereMade s
bare_where_made s reached = bare_made s (always s reached)

-- a call that works at an index holds its slot, and may fill it, found a page there, or holds the file lock
pub works : (g : Geometry) (s : State) (u : ℕ) (c : Option Call) (k : ℕ × ℕ) → Stands g s u c → works_at c ≡ Some k
    → (slot_held c ≡ Some k) × ((fills c ≡ Some k) ⊎ ((s.pages k.0 k.1 ≢ None) ⊎ (locked_file c ≡ Some k.0)))
works g s u (Some (call.Touch (touch.Missing p))) k h e = (e, inl e)
works g s u (Some (call.Touch (touch.Changed p))) k h e = (e, inl e)
works g s u (Some (call.Touch (touch.Abort p))) k h e = (e, inl e)
works g s u (Some (call.Touch (touch.Taken p))) k h e = (e, inl e)
works g s u (Some (call.Touch (touch.Settle p))) k h e = (e, inl e)
works g s u (Some (call.Touch (touch.Committed p))) k h e = (e, inl e)
works g s u (Some (call.Touch (touch.Restore p))) k h e = (e, inl e)
works g s u (Some (call.Touch (touch.Found p))) k h e =
    (e, inr (inl (subst (λ (m : ℕ × ℕ). s.pages m.0 m.1 ≢ None) (some_same e) h.facts.cached)))
works g s u (Some (call.Alloc (alloc.Missing p))) k h e = (e, inr (inr (ap (λ (m : ℕ × ℕ). Some m.0) (some_same e))))
works g s u (Some (call.Alloc (alloc.Changed p))) k h e = (e, inr (inr (ap (λ (m : ℕ × ℕ). Some m.0) (some_same e))))
works g s u (Some (call.Alloc (alloc.Abort p))) k h e = (e, inr (inr (ap (λ (m : ℕ × ℕ). Some m.0) (some_same e))))
works g s u (Some (call.Alloc (alloc.Taken p))) k h e = (e, inr (inr (ap (λ (m : ℕ × ℕ). Some m.0) (some_same e))))
works g s u (Some (call.Alloc (alloc.Settle p))) k h e = (e, inr (inr (ap (λ (m : ℕ × ℕ). Some m.0) (some_same e))))
works g s u (Some (call.Alloc (alloc.Committed p))) k h e = (e, inr (inr (ap (λ (m : ℕ × ℕ). Some m.0) (some_same e))))
works g s u (Some (call.Alloc (alloc.Restore p))) k h e = (e, inr (inr (ap (λ (m : ℕ × ℕ). Some m.0) (some_same e))))
works g s u (Some (call.Map (map.Start _))) k h e = (let d : ◌≡◌ {A = Option (ℕ × ℕ)} None (Some k) = e in absurd (cc))
works g s u (Some (call.Punch (punch.Start _))) k h e = (let d : ◌≡◌ {A = Option (ℕ × ℕ)} None (Some k) = e in absurd (cc))
works g s u (Some (call.Truncate (truncate.Start _))) k h e = (let d : ◌≡◌ {A = Option (ℕ × ℕ)} None (Some k) = e in absurd (cc))
works g s u (Some (call.Unmap (unmap.Start _))) k h e = (let d : ◌≡◌ {A = Option (ℕ × ℕ)} None (Some k) = e in absurd (cc))
works g s u (Some (call.Exit exit.Start)) k h e = (let d : ◌≡◌ {A = Option (ℕ × ℕ)} None (Some k) = e in absurd (cc))
works g s u c k h e = (let d : ◌≡◌ {A = Option (ℕ × ℕ)} None (Some k) = e in absurd (cc))

-- an index which a touch fills is below the size, or a truncation has yet to pass it
pub reach_of : (g : Geometry) (s : State) (u : ℕ) (k : ℕ × ℕ) → Inv g s → fills (s.calls u) ≡ Some k
    → Reached s.size (λ w. to_pass (s.calls w)) k.0 k.1
reach_of g s u k h e = subst (λ (o : Option (ℕ × ℕ)). IfSome o (λ k. Reached s.size (λ w. to_pass (s.calls w)) k.0 k.1)) e (h.reach u)

-- an index that a truncation passed has no page, and no other call works there
pub passed_bare : (s : State) → Always s → PassedIsBare s
passed_bare s all t f j cases =
    let h = all.inv in
    elim cases [
      | inl p ↦ (let none = (h.sweep.past t f j p).0 in (
        none,
        λ u d e. let w = works s.geometry s u (s.calls u) (f, j) (h.stands u) e in elim w.1 [
          | inl a ↦ reached_not_passed s.geometry s f j h (reach_of s.geometry s u (f, j) h a) t p
          | inr a ↦ elim a [
            | inl b ↦ b none
            | inr b ↦ d (same_holder u t (s.locks f) (locks_file s.geometry s u f h b)
                (locks_file s.geometry s t f h (passed_locked (s.calls t) f j p)))
          ]
        ],
      ))
      | inr p ↦ (
        bare_made s all t (f, j) p.0 p.1,
        λ u d e. let w = works s.geometry s u (s.calls u) (f, j) (h.stands u) e in
            d (same_holder u t (s.slots (slot_of s.geometry f j)) (holds_slot s.geometry s u (f, j) h w.0)
            (holds_slot s.geometry s t (f, j) h p.1)),
      )
    ]

-- so in every reached state
pub passed_is_bare : (s : State) → IsReached s → PassedIsBare s
passed_is_bare s reached = passed_bare s (always s reached)

-- a pool at rest holds nothing
module _ (s : State) (reached : IsReached s) (rest : IsAtRest s) where
  no_change : (f : ℕ) → s.pending f ≡ 0
  no_change f =
      changes_are_calls s reached f
      ∙ total_same (s.geometry.tasks + 1) (λ _. 0) (λ u. opens f (s.calls u)) (λ u l. ap (opens f) (rest u)) ∙ total_none (s.geometry.tasks + 1)

  -- a frame at a place that is no call's isn't in a hand
  placed : (x : ℕ) (p : Place) → IsAt s.frame (λ u. hand (s.calls u)) s.pages x p → is_in_hand (s.frame x) ≡ false
  placed x Free e = ap is_in_hand e
  placed x (Hand u) e = let d : ◌≡◌ {A = Option ℕ} None (Some x) = sym (ap hand (rest u)) ∙ e in absurd (cc)
  placed x (Page f i) e = ap is_in_hand ((always s reached).inv.place.pages f i x e).1
  placed x Retired e = ap is_in_hand e

  no_hand : (x : ℕ) → x < s.frames → is_in_hand (s.frame x) ≡ false
  no_hand x l = let found = (always s reached).inv.place.one.one x l in placed x found.0 found.1

  no_slot : (k : ℕ) (o : Option ℕ) → s.slots k ≡ o → o ≡ None
  no_slot k None e = refl
  no_slot k (Some u) e =
      let held = (always s reached).inv.holders.slot k u e in
      let d : ◌≡◌ {A = Option (ℕ × ℕ)} None (Some held.0) = sym (ap slot_held (rest u)) ∙ held.1 in absurd (cc)

  no_lock : (f : ℕ) (o : Option ℕ) → s.locks f ≡ o → o ≡ None
  no_lock f None e = refl
  no_lock f (Some u) e =
      let d : ◌≡◌ {A = Option ℕ} None (Some f) = sym (ap locked_file (rest u)) ∙ (always s reached).inv.holders.lock f u e in absurd (cc)

  pub holds_nothing : HoldsNothing s
  holds_nothing = record {
    changes = no_change;
    hands = no_hand;
    slots = λ k. no_slot k (s.slots k) refl;
    locks = λ f. no_lock f (s.locks f) refl;
  }
