-- A truncation holds its file's lock while it passes the indices, so there is one at a time.
use Rattle.std.proofs.Common.{◌≡◌, ℕ, ◌≤◌, ap, sym, ◌∙◌, subst, arith, inl, inr}
use Rattle.std.specs.Prelude.{true, false, Option, Some, None, IfSome, ◌==◌, ◌&&◌, nat_le, nat_lt}
use Rattle.std.proofs.lemmas.Bool.Decides.{nat_tests}
use Rattle.hp_machine.specs.State.{Geometry, State}
use Rattle.hp_machine.specs.Views.{locked_file, slot_held}
use Rattle.hp_machine.specs.declared.touch.TouchPhase.TheVariants as touch
use Rattle.hp_machine.specs.declared.truncate.TruncatePhase.TheVariants as truncate
use Rattle.hp_machine.specs.declared.map.MapPhase.TheVariants as map
use Rattle.hp_machine.specs.declared.alloc.AllocPhase.TheVariants as alloc
use Rattle.hp_machine.specs.declared.punch.PunchPhase.TheVariants as punch
use Rattle.hp_machine.specs.declared.unmap.UnmapPhase.TheVariants as unmap
use Rattle.hp_machine.specs.declared.exit.ExitPhase.TheVariants as exit
use Rattle.hp_machine.specs.declared.call.Call.{Call}
use Rattle.hp_machine.specs.declared.call.Call.TheVariants as call
use Rattle.hp_laws.specs.Sweep.{fills, to_pass, passed}
use Rattle.hp_laws.proofs.Deciding.{file_told}
use Rattle.hp_laws.proofs.Standing.{HasSlot, HasLock}
use Rattle.hp_laws.proofs.Invariant.{Inv, Reached}

-- an index isn't both up to another and above it
not_both : (f k i j : ℕ) → ((f == k) && nat_le j i) ≡ true → ((f == k) && nat_lt i j) ≡ true → ⊥
not_both f k i j a b = grind (arith, nat_tests)

-- a truncation that has passed an index holds the lock of its file
pub passed_locked : (c : Option Call) (k j : ℕ) → passed c k j ≡ true → locked_file c ≡ Some k
passed_locked (Some (call.Truncate (truncate.Want p))) k j e = file_told p.truncation.file k _ e
passed_locked (Some (call.Truncate (truncate.Locked p))) k j e = file_told p.truncation.file k _ e
passed_locked (Some (call.Truncate (truncate.Unmap p))) k j e = file_told p.truncation.file k _ e
passed_locked (Some (call.Truncate (truncate.Evict p))) k j e = file_told p.truncation.file k _ e
passed_locked (Some (call.Truncate (truncate.Free p))) k j e = file_told p.truncation.file k _ e
passed_locked (Some (call.Truncate (truncate.Unslot p))) k j e = file_told p.truncation.file k _ e
passed_locked (Some (call.Truncate (truncate.Tail p))) k j e = file_told p.truncation.file k _ e
passed_locked (Some (call.Truncate (truncate.Settle p))) k j e = file_told p.truncation.file k _ e
passed_locked (Some (call.Truncate (truncate.Leave p))) k j e = file_told p.truncation.file k _ e
passed_locked (Some (call.Touch (touch.Look _))) k j e = let d : false ≡ true = e in cc
passed_locked (Some (call.Map (map.Start _))) k j e = let d : false ≡ true = e in cc
passed_locked (Some (call.Alloc (alloc.Start _))) k j e = let d : false ≡ true = e in cc
passed_locked (Some (call.Punch (punch.Start _))) k j e = let d : false ≡ true = e in cc
passed_locked (Some (call.Unmap (unmap.Start _))) k j e = let d : false ≡ true = e in cc
passed_locked (Some (call.Exit exit.Start)) k j e = let d : false ≡ true = e in cc
passed_locked c k j e = let d : false ≡ true = e in cc

-- so does one that has yet to pass it
pub to_pass_locked : (c : Option Call) (k j : ℕ) → to_pass c k j ≡ true → locked_file c ≡ Some k
to_pass_locked (Some (call.Truncate (truncate.Want p))) k j e = file_told p.truncation.file k _ e
to_pass_locked (Some (call.Truncate (truncate.Locked p))) k j e = file_told p.truncation.file k _ e
to_pass_locked (Some (call.Truncate (truncate.Unmap p))) k j e = file_told p.truncation.file k _ e
to_pass_locked (Some (call.Truncate (truncate.Evict p))) k j e = file_told p.truncation.file k _ e
to_pass_locked (Some (call.Truncate (truncate.Free p))) k j e = file_told p.truncation.file k _ e
to_pass_locked (Some (call.Truncate (truncate.Unslot p))) k j e = file_told p.truncation.file k _ e
to_pass_locked (Some (call.Touch (touch.Look _))) k j e = let d : false ≡ true = e in cc
to_pass_locked (Some (call.Map (map.Start _))) k j e = let d : false ≡ true = e in cc
to_pass_locked (Some (call.Alloc (alloc.Start _))) k j e = let d : false ≡ true = e in cc
to_pass_locked (Some (call.Punch (punch.Start _))) k j e = let d : false ≡ true = e in cc
to_pass_locked (Some (call.Unmap (unmap.Start _))) k j e = let d : false ≡ true = e in cc
to_pass_locked (Some (call.Exit exit.Start)) k j e = let d : false ≡ true = e in cc
to_pass_locked c k j e = let d : false ≡ true = e in cc

-- no truncation has both passed an index and yet to pass it
pub to_pass_or_passed : (c : Option Call) (k j : ℕ) → to_pass c k j ≡ true → passed c k j ≡ true → ⊥
to_pass_or_passed (Some (call.Truncate (truncate.Want p))) k j a b = not_both p.truncation.file k p.index j a b
to_pass_or_passed (Some (call.Truncate (truncate.Locked p))) k j a b = not_both p.truncation.file k p.index j a b
to_pass_or_passed (Some (call.Truncate (truncate.Unmap p))) k j a b = not_both p.truncation.file k p.index j a b
to_pass_or_passed (Some (call.Truncate (truncate.Evict p))) k j a b = not_both p.truncation.file k p.index j a b
to_pass_or_passed (Some (call.Truncate (truncate.Free p))) k j a b = not_both p.truncation.file k p.index j a b
to_pass_or_passed (Some (call.Truncate (truncate.Unslot p))) k j a b = not_both p.truncation.file k p.index j a b
to_pass_or_passed (Some (call.Touch (touch.Look _))) k j a b = let d : false ≡ true = a in cc
to_pass_or_passed (Some (call.Map (map.Start _))) k j a b = let d : false ≡ true = a in cc
to_pass_or_passed (Some (call.Alloc (alloc.Start _))) k j a b = let d : false ≡ true = a in cc
to_pass_or_passed (Some (call.Punch (punch.Start _))) k j a b = let d : false ≡ true = a in cc
to_pass_or_passed (Some (call.Unmap (unmap.Start _))) k j a b = let d : false ≡ true = a in cc
to_pass_or_passed (Some (call.Exit exit.Start)) k j a b = let d : false ≡ true = a in cc
to_pass_or_passed c k j a b = let d : false ≡ true = a in cc

-- a touch that fills an index holds its slot
pub fills_slot : (c : Option Call) (k : ℕ × ℕ) → fills c ≡ Some k → slot_held c ≡ Some k
fills_slot (Some (call.Touch (touch.Missing p))) k e = e
fills_slot (Some (call.Touch (touch.Changed p))) k e = e
fills_slot (Some (call.Touch (touch.Abort p))) k e = e
fills_slot (Some (call.Touch (touch.Taken p))) k e = e
fills_slot (Some (call.Touch (touch.Settle p))) k e = e
fills_slot (Some (call.Touch (touch.Committed p))) k e = e
fills_slot (Some (call.Touch (touch.Restore p))) k e = e
fills_slot (Some (call.Map (map.Start _))) k e = let d : ◌≡◌ {A = Option (ℕ × ℕ)} None (Some k) = e in cc
fills_slot (Some (call.Alloc (alloc.Start _))) k e = let d : ◌≡◌ {A = Option (ℕ × ℕ)} None (Some k) = e in cc
fills_slot (Some (call.Punch (punch.Start _))) k e = let d : ◌≡◌ {A = Option (ℕ × ℕ)} None (Some k) = e in cc
fills_slot (Some (call.Truncate (truncate.Start _))) k e = let d : ◌≡◌ {A = Option (ℕ × ℕ)} None (Some k) = e in cc
fills_slot (Some (call.Unmap (unmap.Start _))) k e = let d : ◌≡◌ {A = Option (ℕ × ℕ)} None (Some k) = e in cc
fills_slot (Some (call.Exit exit.Start)) k e = let d : ◌≡◌ {A = Option (ℕ × ℕ)} None (Some k) = e in cc
fills_slot c k e = let d : ◌≡◌ {A = Option (ℕ × ℕ)} None (Some k) = e in cc

-- the call that stands under a lock, or at a slot, holds it
pub locks_file : (g : Geometry) (s : State) (u f : ℕ) → Inv g s → locked_file (s.calls u) ≡ Some f → HasLock s u f
locks_file g s u f h e = subst (λ (o : Option ℕ). IfSome o (λ file. HasLock s u file)) e (h.stands u).lock

-- a call whose phase says that it holds a slot does hold it
pub holds_slot : (g : Geometry) (s : State) (u : ℕ) (k : ℕ × ℕ) → Inv g s → slot_held (s.calls u) ≡ Some k → HasSlot g s u k.0 k.1
holds_slot g s u k h e = subst (λ (o : Option (ℕ × ℕ)). IfSome o (λ place. HasSlot g s u place.0 place.1)) e (h.stands u).slot

-- a slot, or a lock, has one holder
pub same_holder : (a b : ℕ) (o : Option ℕ) → o ≡ Some a → o ≡ Some b → a ≡ b
same_holder a b o d e = cc

-- no one passes indices of a file whose lock another call holds
pub no_passer : (g : Geometry) (s : State) (t f : ℕ) → Inv g s → HasLock s t f → ((j : ℕ) → passed (s.calls t) f j ≡ false)
    → (u j : ℕ) → passed (s.calls u) f j ≡ true → ⊥
no_passer g s t f h held none u j e =
    let d : u ≡ t = same_holder u t (s.locks f) (locks_file g s u f h (passed_locked (s.calls u) f j e)) held in
    let x : passed (s.calls t) f j ≡ true = ap (λ (w : ℕ). passed (s.calls w) f j) (sym d) ∙ e in
    let y : passed (s.calls t) f j ≡ false = none j in
    cc

-- an index that is reached isn't passed
pub reached_not_passed : (g : Geometry) (s : State) (f i : ℕ) → Inv g s → Reached s.size (λ u. to_pass (s.calls u)) f i → (u : ℕ)
    → passed (s.calls u) f i ≡ true → ⊥
reached_not_passed g s f i h r u e = elim r [
  | inl l ↦ (let p = h.sweep.past u f i e in let q : s.size f ≤ i = p.1 in absurd (omega arith))
  | inr a ↦ (let d : a.0 ≡ u = same_holder a.0 u (s.locks f)
      (locks_file g s a.0 f h (to_pass_locked (s.calls a.0) f i a.1)) (locks_file g s u f h (passed_locked (s.calls u) f i e)) in
      to_pass_or_passed (s.calls u) f i (ap (λ (w : ℕ). to_pass (s.calls w) f i) (sym d) ∙ a.1) e)
]
