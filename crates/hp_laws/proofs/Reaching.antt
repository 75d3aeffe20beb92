-- What is translated is below the size, or a truncation has yet to pass it: a law on what is written, and on which index a touch
-- may come to translate. Nothing else rests on it.
use Rattle.std.proofs.Common.{◌≡◌, ◌≢◌, ℕ, ◌+◌, ◌≤◌, refl, ap, sym, ◌∙◌, subst, arith, inl, inr}
use Rattle.std.proofs.Math.Path.{fun_ext}
use Rattle.std.specs.Prelude.{Bool, true, not, ◌&&◌, ◌==◌, nat_le, nat_lt, is_some, max, Option, Some, None, IfSome, List}
use Rattle.hp_base.specs.Indices.{missing}
use Rattle.hp_base.specs.Mappings.{find, fits, entered}
use Rattle.hp_base.specs.Numbers.{put, put2}
use Rattle.hp_base.specs.declared.event.Op.{Op}
use Rattle.hp_base.specs.declared.event.Op.TheVariants as op
use Rattle.hp_base.specs.declared.mapping.Mapping.{Mapping}
use Rattle.hp_base.proofs.Puts.{put2_tells}
use Rattle.hp_machine.specs.State.{Pool, State, pool_of, with_pool, slot_of, frees, quota_is_used_up}
use Rattle.hp_machine.specs.Events.{CallRow, first, left}
use Rattle.hp_machine.specs.TouchRows.{TouchRow}
use Rattle.hp_machine.specs.declared.touch.Committed.{Committed}
use Rattle.hp_machine.specs.declared.touch.TouchPhase.{TouchPhase}
use Rattle.hp_machine.specs.declared.touch.TouchPhase.TheVariants as at
use Rattle.hp_machine.specs.declared.outcome.Outcome.{Outcome}
use Rattle.hp_machine.specs.declared.call.Call.{Call}
use Rattle.hp_machine.specs.declared.call.Call.TheVariants as call
use Rattle.hp_machine.specs.declared.call.Turn.{Turn}
use Rattle.hp_machine.specs.declared.call.Turn.TheVariants.{Moved, Blocked, Ended}
use Rattle.hp_laws.specs.Sweep.{to_pass}
use Rattle.hp_laws.proofs.Cuts.{cut_reached, passed_reached}
use Rattle.hp_laws.proofs.Deciding.{some_same}
use Rattle.hp_laws.proofs.Did.{Stepped, Wrote, Over, Waits, put_in}
use Rattle.hp_laws.proofs.Fits.{Fit, wrote, to_translate}
use Rattle.hp_laws.proofs.Invariant.{Reached, Inv, each_call, if_weaker, put_known, view_put, to}
use Rattle.hp_laws.proofs.Shared.{by_test, by_option, reach_at}
use Rattle.hp_laws.proofs.Standing.{Facts}
use Rattle.hp_laws.proofs.Tables.{clear_kept, emptied, grown_size, reached_more, same_found, still_found}
use Rattle.hp_laws.proofs.TouchDid.{below_size, not_none}
use Rattle.hp_laws.proofs.Writes.{Write, written, Nothing, TakesLock, LeavesLock, TakesSlot, LeavesSlot, Opens, Aborts, Commits}
use Rattle.hp_laws.proofs.Writes.{TakesReserved, TakesFree, Settles, Places, Restores, Enters, Accesses, Grows, Clears, Evicts, Deletes}
use Rattle.hp_laws.proofs.Writes.{FreesUnreserved, Frees, Cuts, Passes, CutsTail, Prepares, Accounts, EntersArea, Empties, Drops}

-- what is translated is reached, and so is what a touch is to translate
pub record Reaches (size : ℕ → ℕ) (mappings : ℕ → List Mapping) (table : ℕ → ℕ → Option ℕ) (calls : ℕ → Option Call) : Type 0 where
  pub below : (t v x f i : ℕ) → table t v ≡ Some x → find (mappings t) v ≡ Some (f, i) → Reached size (λ u. to_pass (calls u)) f i
  pub found : (w : ℕ) → IfSome (to_translate (calls w)) (λ k. Reached size (λ u. to_pass (calls u)) k.0 k.1)

abbrev pub AllReached : State → Type 0
AllReached s = Reaches s.size s.mappings s.entries s.calls

-- the index has a page, and is reached
abbrev IsPaged : State → (file index : ℕ) → Type 0
IsPaged s f i = (s.pages f i ≢ None) × Reached s.size (λ u. to_pass (s.calls u)) f i

-- and is still reached where the call of task t goes on to c and the sizes are these
abbrev StaysReached : State → (task : ℕ) → Option Call → (size : ℕ → ℕ) → Type 0
StaysReached s t c size = (f i : ℕ) → IsPaged s f i → Reached size (put (λ (u : ℕ). to_pass (s.calls u)) t (to_pass c)) f i

-- each entry that is there stands for such an index
abbrev ArePaged : State → Pool → Type 0
ArePaged s new = (w v x f i : ℕ) → new.entries w v ≡ Some x → find (new.mappings w) v ≡ Some (f, i) → IsPaged s f i

-- what the call that goes on is to translate is reached then
abbrev pub Finds : State → (task : ℕ) → Pool → Option Call → Type 0
Finds s t new c = IfSome (to_translate c) (λ k. Reached new.size (λ u. to_pass (put s.calls t c u)) k.0 k.1)

-- an index that a touch is to translate has a page
found_page : (s : State) (u : ℕ) (c : Option Call) (k : ℕ × ℕ) → Facts s.geometry s u c → to_translate c ≡ Some k → s.pages k.0 k.1 ≢ None
found_page s u (Some (call.Touch (at.Found p))) k y e = subst (λ (m : ℕ × ℕ). s.pages m.0 m.1 ≢ None) (some_same e) y.cached
found_page s u c k y e = let d : ◌≡◌ {A = Option (ℕ × ℕ)} None (Some k) = e in absurd (cc)

-- what entries stand for has a page, and is reached
paged : (s : State) → Inv s.geometry s → AllReached s → ArePaged s (pool_of s)
paged s inv h w v x f i e d =
    let o = inv.entries.agree w v x e in
    let page : s.pages f i ≡ Some x = subst (λ (m : ℕ × ℕ). s.pages m.0 m.1 ≡ Some x) (some_same (sym o.1 ∙ d)) o.2 in
    (not_none (s.pages f i) x page, h.below w v x f i e d)

-- where a call goes on and all of it stays reached, that is kept
goes_so : (s : State) (t : ℕ) (c : Option Call) (new : Pool) → Inv s.geometry s → StaysReached s t c new.size → ArePaged s new
    → Finds s t new c → AllReached s → AllReached (to (with_pool s new) t c)
goes_so s t c new inv stays entries own h = record {
  below = λ w v x f i e d. on f i (entries w v x f i e d);
  found = each_call (λ u d. IfSome (to_translate d) (λ k. Reached new.size (λ u. to_pass (put s.calls t c u)) k.0 k.1)) s.calls t c
      (λ u _. if_weaker (to_translate (s.calls u))
      (λ k e r. on k.0 k.1 (found_page s u (s.calls u) k (inv.stands u).facts e, r)) (h.found u)) own;
}
  where
    on : (f i : ℕ) → IsPaged s f i → Reached new.size (λ u. to_pass (put s.calls t c u)) f i
    on f i y = subst (λ (a : ℕ → ℕ → ℕ → Bool). Reached new.size a f i) (sym (view_put to_pass s.calls t c)) (stays f i y)

-- a call that has the same indices to pass leaves reached what was, where no file is cut
no_less : (s : State) (t : ℕ) (b c : Option Call) (size : ℕ → ℕ) → s.calls t ≡ b → to_pass c ≡ to_pass b
    → ((k : ℕ) → s.size k ≤ size k) → StaysReached s t c size
no_less s t b c size e same larger f i y =
    subst (λ (a : ℕ → ℕ → ℕ → Bool). Reached size a f i)
    (sym (put_known (λ (u : ℕ). to_pass (s.calls u)) t (to_pass c) (ap to_pass e ∙ sym same)))
    (reached_more s.size size (λ u. to_pass (s.calls u)) f i (larger f) y.1)

-- so where a step writes no size
sizes_stay : (s : State) (t : ℕ) (b c : Option Call) (w : Write) → Inv s.geometry s → s.calls t ≡ b → to_pass c ≡ to_pass b
    → (written (pool_of s) t w).size ≡ s.size → ArePaged s (written (pool_of s) t w)
    → Finds s t (written (pool_of s) t w) c → AllReached s → AllReached (to (wrote s t w) t c)
sizes_stay s t b c w inv e same sizes entries own h =
    goes_so s t c (written (pool_of s) t w) inv
    (no_less s t b c (written (pool_of s) t w).size e same (λ k. (let a = ap (λ (m : ℕ → ℕ). m k) sizes in omega arith))) entries own h

-- an entry that a touch writes stands for the index that it was to translate
entered_paged : (s : State) (t v x : ℕ) (b : Option Call) (place : ℕ × ℕ) → Inv s.geometry s → AllReached s → s.calls t ≡ b
    → find (s.mappings t) v ≡ Some place → s.pages place.0 place.1 ≡ Some x → to_translate b ≡ Some place
    → (w z y f i : ℕ) → put2 s.entries t v (Some x) w z ≡ Some y → find (s.mappings w) z ≡ Some (f, i) → IsPaged s f i
entered_paged s t v x b place inv h e there page aim w z y f i a d = elim (put2_tells s.entries t v (Some x) w z) [
  | inl q ↦ subst (λ (m : ℕ × ℕ). IsPaged s m.0 m.1)
      (some_same (sym there ∙ (ap (find (s.mappings t)) (sym q.1) ∙ (ap (λ (m : ℕ). find (s.mappings m) z) (sym q.0) ∙ d))))
      (not_none (s.pages place.0 place.1) x page, reached)
  | inr q ↦ paged s inv h w z y f i (sym q.1 ∙ a) d
]
  where
    reached : Reached s.size (λ u. to_pass (s.calls u)) place.0 place.1
    reached = subst (λ (o : Option (ℕ × ℕ)). IfSome o (λ k. Reached s.size (λ u. to_pass (s.calls u)) k.0 k.1))
        (ap to_translate e ∙ aim) (h.found t)

-- what an entry stands for where a mapping is entered it stood for before
area_paged : (s : State) (t : ℕ) (a : Mapping) → Inv s.geometry s → AllReached s
    → fits s.geometry.space (s.mappings t) a.base a.len ≡ true
    → (w v x f i : ℕ) → s.entries w v ≡ Some x → find (put s.mappings t (entered (s.mappings t) a) w) v ≡ Some (f, i) → IsPaged s f i
area_paged s t a inv h clear w v x f i e d =
    let o = inv.entries.agree w v x e in
    paged s inv h w v x f i e (o.1 ∙ (sym (still_found s t a s.geometry.space clear w v o.0 o.1) ∙ d))

-- a step that fits keeps what is translated reached, where it finds only what is
keeps_reached : (s : State) (t : ℕ) (b c : Option Call) (w : Write) → Inv s.geometry s → s.calls t ≡ b → Fit s t b c w
    → Finds s t (written (pool_of s) t w) c → AllReached s → AllReached (to (wrote s t w) t c)
keeps_reached s t b c Nothing inv e y own h = sizes_stay s t b c Nothing inv e (ap (λ p. p.4.0) y.same) refl (paged s inv h) own h
keeps_reached s t b c (TakesLock f) inv e y own h =
    sizes_stay s t b c (TakesLock f) inv e (ap (λ p. p.4.0) y.same) refl (paged s inv h) own h
keeps_reached s t b c (LeavesLock f) inv e y own h =
    sizes_stay s t b c (LeavesLock f) inv e (ap to_pass y.over ∙ fun_ext (λ k. fun_ext (λ j. sym (y.done k j)))) refl (paged s inv h) own h
keeps_reached s t b c (TakesSlot f i) inv e y own h =
    sizes_stay s t b c (TakesSlot f i) inv e (ap (λ p. p.4.0) y.same) refl (paged s inv h) own h
keeps_reached s t b c (LeavesSlot f i) inv e y own h =
    sizes_stay s t b c (LeavesSlot f i) inv e (ap (λ p. p.4.0) y.same) refl (paged s inv h) own h
keeps_reached s t b c (Opens f) inv e y own h = sizes_stay s t b c (Opens f) inv e (ap (λ p. p.0.0) y.same) refl (paged s inv h) own h
keeps_reached s t b c (Aborts f) inv e y own h = sizes_stay s t b c (Aborts f) inv e (ap (λ p. p.0.0) y.same) refl (paged s inv h) own h
keeps_reached s t b c (Commits f change) inv e y own h =
    sizes_stay s t b c (Commits f change) inv e (ap (λ p. p.0.0) y.same) refl (paged s inv h) own h
keeps_reached s t b c (TakesReserved x) inv e y own h =
    sizes_stay s t b c (TakesReserved x) inv e (ap (λ p. p.0.0) y.same) refl (paged s inv h) own h
keeps_reached s t b c (TakesFree x) inv e y own h =
    sizes_stay s t b c (TakesFree x) inv e (ap (λ p. p.0.0) y.same) refl (paged s inv h) own h
keeps_reached s t b c (Settles n m) inv e y own h =
    sizes_stay s t b c (Settles n m) inv e (ap (λ p. p.0.0) y.same) refl (paged s inv h) own h
keeps_reached s t b c (Places f i x) inv e y own h =
    sizes_stay s t b c (Places f i x) inv e (ap (λ p. p.0.0) y.same) refl (paged s inv h) own h
keeps_reached s t b c (Restores x) inv e y own h = sizes_stay s t b c (Restores x) inv e (ap (λ p. p.0.0) y.same) refl (paged s inv h) own h
keeps_reached s t b c (Enters v x access) inv e y own h =
    sizes_stay s t b c (Enters v x access) inv e (ap (λ p. p.4.0) y.same) refl
    (entered_paged s t v x b y.place inv h e y.found y.page y.aim) own h
keeps_reached s t b c (Accesses x access) inv e y own h =
    sizes_stay s t b c (Accesses x access) inv e (ap (λ p. p.4.0) y.same) refl (paged s inv h) own h
keeps_reached s t b c (Grows f end) inv e y own h =
    goes_so s t c (written (pool_of s) t (Grows f end)) inv (no_less s t b c (put s.size f (max (s.size f) end)) e (ap (λ p. p.4.0) y.same)
    (λ k. grown_size s.size f (max (s.size f) end) k (omega arith))) (paged s inv h) own h
keeps_reached s t b c (Clears k f i) inv e y own h =
    sizes_stay s t b c (Clears k f i) inv e (ap (λ p. p.4.0) y.same) refl
    (λ w v x m j a d. paged s inv h w v x m j (clear_kept s k f i w v x a).0 d) own h
keeps_reached s t b c (Evicts f i x) inv e y own h =
    sizes_stay s t b c (Evicts f i x) inv e (ap (λ p. p.0) y.same) refl (paged s inv h) own h
keeps_reached s t b c (Deletes f i) inv e y own h =
    sizes_stay s t b c (Deletes f i) inv e (ap (λ p. p.0.0) y.same) refl (paged s inv h) own h
keeps_reached s t b c (FreesUnreserved x) inv e y own h =
    sizes_stay s t b c (FreesUnreserved x) inv e (ap (λ p. p.0.0) y.same) refl (paged s inv h) own h
keeps_reached s t b c (Frees x) inv e y own h = sizes_stay s t b c (Frees x) inv e (ap (λ p. p.0.0) y.same) refl (paged s inv h) own h
keeps_reached s t b c (Cuts f new) inv e y own h =
    goes_so s t c (written (pool_of s) t (Cuts f new)) inv
    (λ k j p. cut_reached s t b c f new y.top e y.high y.none_to_pass y.all_to_pass k j p.1) (paged s inv h) own h
keeps_reached s t b c (Passes f i new) inv e y own h =
    goes_so s t c (written (pool_of s) t (Passes f i new)) inv
    (λ k j p. passed_reached s t b c f i new e y.sized y.all_to_pass k j p.1
    (λ a d. p.0 (ap (λ (m : ℕ). s.pages m j) a ∙ (ap (s.pages f) d ∙ y.bare)))) (paged s inv h) own h
keeps_reached s t b c (CutsTail f new) inv e y own h = sizes_stay s t b c (CutsTail f new) inv e y.same_to_pass refl (paged s inv h) own h
keeps_reached s t b c Prepares inv e y own h = sizes_stay s t b c Prepares inv e (ap (λ p. p.4.0) y.same) refl (paged s inv h) own h
keeps_reached s t b c (Accounts n) inv e y own h = sizes_stay s t b c (Accounts n) inv e (ap (λ p. p.0.0) y.same) refl (paged s inv h) own h
keeps_reached s t b c (EntersArea a) inv e y own h =
    goes_so s t c (written (pool_of s) t (EntersArea a)) inv
    (no_less s t b c (put s.size a.file (max (s.size a.file) (a.from + a.len))) e (ap (λ p. p.4.0) y.same)
    (λ k. grown_size s.size a.file (max (s.size a.file) (a.from + a.len)) k (omega arith))) (area_paged s t a inv h y.fits) own h
keeps_reached s t b c (Empties base) inv e y own h =
    sizes_stay s t b c (Empties base) inv e (ap (λ p. p.4.0) y.same) refl
    (λ w v x f i a d. paged s inv h w v x f i (emptied s t base w v x a).0 d) own h
keeps_reached s t b c (Drops base) inv e y own h =
    sizes_stay s t b c (Drops base) inv e (ap (λ p. p.4.0) y.same) refl
    (λ w v x f i a d. paged s inv h w v x f i a (sym (same_found s t base y.clear w v x a) ∙ d)) own h

-- so does a step that wrote what fits, or waits
pub step_reaches : (s : State) (t : ℕ) (c : Call) (o : Outcome) (new : Pool) (next : Option Call) → Inv s.geometry s → s.calls t ≡ Some c
    → Stepped s t c o new next → Finds s t new next → AllReached s → AllReached (to (with_pool s new) t next)
step_reaches s t c o new next inv e (Wrote w d near y) own h = keeps_reached s t (Some c) (Some d) w inv e y own h
step_reaches s t c o new next inv e (Over w a near y) own h = keeps_reached s t (Some c) None w inv e y own h
step_reaches s t c o new next inv e (Waits u y) own h = sizes_stay s t (Some c) (Some c) Nothing inv e refl refl (paged s inv h) own h

-- what was reached stays so where the call that goes on has the same indices to pass
pub still_reached : (s : State) (t : ℕ) (b c : Option Call) (f i : ℕ) → s.calls t ≡ b → to_pass c ≡ to_pass b
    → Reached s.size (λ u. to_pass (s.calls u)) f i → Reached s.size (λ u. to_pass (put s.calls t c u)) f i
still_reached s t b c f i e same r =
    subst (λ (a : ℕ → ℕ → ℕ → Bool). Reached s.size a f i)
    (sym (view_put to_pass s.calls t c ∙ put_known (λ (u : ℕ). to_pass (s.calls u)) t (to_pass c) (ap to_pass e ∙ sym same))) r

-- a call that begins has nothing to pass
first_passes : (o : Op) → to_pass (Some (first o)) ≡ to_pass None
first_passes (op.Map f from len) = refl
first_passes (op.MapNoReserve f from len) = refl
first_passes (op.Unmap base) = refl
first_passes (op.Load v) = refl
first_passes (op.Store v w) = refl
first_passes (op.Alloc f from len k) = refl
first_passes (op.Punch f from len) = refl
first_passes (op.Truncate f new) = refl
first_passes op.Exit = refl

-- nor to translate
first_finds : (P : ℕ × ℕ → Type 0) (o : Op) → IfSome (to_translate (Some (first o))) P
first_finds P (op.Map f from len) = tt
first_finds P (op.MapNoReserve f from len) = tt
first_finds P (op.Unmap base) = tt
first_finds P (op.Load v) = tt
first_finds P (op.Store v w) = tt
first_finds P (op.Alloc f from len k) = tt
first_finds P (op.Punch f from len) = tt
first_finds P (op.Truncate f new) = tt
first_finds P op.Exit = tt

-- so does a call that begins
pub goes_first : (s : State) (t : ℕ) (o : Op) → s.calls t ≡ None → AllReached s → AllReached (to s t (Some (first o)))
goes_first s t o e h = record {
  below = λ w v x f i d p. on f i (h.below w v x f i d p);
  found = each_call (λ u d. IfSome (to_translate d) (λ k. Reached s.size (λ u. to_pass (put s.calls t (Some (first o)) u)) k.0 k.1))
      s.calls t (Some (first o)) (λ u _. if_weaker (to_translate (s.calls u)) (λ k _ r. on k.0 k.1 r) (h.found u)) (first_finds _ o);
}
  where
    on : (f i : ℕ) → Reached s.size (λ u. to_pass (s.calls u)) f i → Reached s.size (λ u. to_pass (put s.calls t (Some (first o)) u)) f i
    on f i r = still_reached s t None (Some (first o)) f i e (first_passes o) r

-- ---- what a touch may come to translate

-- what a touch that took this turn is to translate is reached
abbrev pub TouchFinds : State → (task : ℕ) → Turn TouchPhase → Pool → Type 0
TouchFinds s t turn new = Finds s t new (left call.Touch turn)

-- a touch that placed its page had reached its index
pub placed_reached : (s : State) (t : ℕ) (p : Committed) → Inv s.geometry s → s.calls t ≡ Some (call.Touch (at.Committed p))
    → Reached s.size (λ u. to_pass (put s.calls t (Some (call.Touch (at.Found (record { touch = p.touch })))) u)) p.touch.file p.touch.index
placed_reached s t p h e =
    still_reached s t (Some (call.Touch (at.Committed p))) (Some (call.Touch (at.Found (record { touch = p.touch })))) p.touch.file
    p.touch.index e refl (reach_at s t _ h e)

-- a touch comes to translate an index that it saw below the size, or whose page it placed
pub touch_finds : (s : State) (t : ℕ) (killed grant : Bool) (phase : TouchPhase) (turn : Turn TouchPhase) (new : Pool)
    → Inv s.geometry s → s.calls t ≡ Some (call.Touch phase) → TouchRow (pool_of s) t killed grant phase turn new → TouchFinds s t turn new
touch_finds s t killed grant (at.Look p) turn new h e row =
    by_option (find (s.mappings t) p.vpn) row
    (λ _ r. put_in (TouchFinds s t) r tt)
    (λ place _ r. by_option (s.entries t p.vpn) r (λ _ r. put_in (TouchFinds s t) r tt) (λ x _ r. put_in (TouchFinds s t) r.2 tt))
touch_finds s t killed grant (at.Want p) turn new h e row =
    by_test killed row
    (λ _ r. put_in (TouchFinds s t) r tt)
    (λ _ r. by_option (s.slots (slot_of s.geometry p.touch.file p.touch.index)) r
    (λ _ r. put_in (TouchFinds s t) r tt)
    (λ u _ r. put_in (TouchFinds s t) r tt))
touch_finds s t killed grant (at.Locked p) turn new h e row =
    by_test (nat_le (s.size p.touch.file) p.touch.index) row
    (λ _ r. put_in (TouchFinds s t) r tt)
    (λ below r. by_test (is_some (s.pages p.touch.file p.touch.index)) r
    (λ _ r. put_in (TouchFinds s t) r (still_reached s t (Some (call.Touch (at.Locked p)))
    (Some (call.Touch (at.Found (record { touch = p.touch })))) p.touch.file p.touch.index e refl
    (inl (below_size p.touch.index (s.size p.touch.file) below))))
    (λ _ r. put_in (TouchFinds s t) r tt))
touch_finds s t killed grant (at.Missing p) turn new h e row =
    by_test ((s.spare p.touch.file == s.pending p.touch.file) && not grant) row
    (λ _ r. put_in (TouchFinds s t) r tt)
    (λ _ r. put_in (TouchFinds s t) r tt)
touch_finds s t killed grant (at.Changed p) turn new h e row =
    by_test killed row
    (λ _ r. put_in (TouchFinds s t) r tt)
    (λ _ r. by_test (p.pending.missing == 0) r
    (λ _ r. put_in (TouchFinds s t) r.3 tt)
    (λ _ r. by_test (quota_is_used_up (pool_of s)) r
    (λ _ r. put_in (TouchFinds s t) r tt)
    (λ _ r. by_test (frees (pool_of s) == s.resv) r
    (λ _ r. put_in (TouchFinds s t) r tt)
    (λ _ r. put_in (TouchFinds s t) r.2 tt))))
touch_finds s t killed grant (at.Abort p) turn new h e row = put_in (TouchFinds s t) row tt
touch_finds s t killed grant (at.Taken p) turn new h e row =
    by_test (nat_lt (missing (s.reserved p.touch.file) p.pending.from p.pending.to) p.pending.missing) row
    (λ _ r. put_in (TouchFinds s t) r tt)
    (λ _ r. put_in (TouchFinds s t) r tt)
touch_finds s t killed grant (at.Settle p) turn new h e (low, used, row) = put_in (TouchFinds s t) row tt
touch_finds s t killed grant (at.Committed p) turn new h e row =
    by_test (nat_le (s.size p.touch.file) p.touch.index) row
    (λ _ r. put_in (TouchFinds s t) r tt)
    (λ _ r. by_test grant r
    (λ _ r. put_in (TouchFinds s t) r (placed_reached s t p h e))
    (λ _ r. put_in (TouchFinds s t) r tt))
touch_finds s t killed grant (at.Restore p) turn new h e row = put_in (TouchFinds s t) row tt
touch_finds s t killed grant (at.Found p) turn new h e row =
    by_test (nat_le (s.size p.touch.file) p.touch.index) row
    (λ _ r. put_in (TouchFinds s t) r tt)
    (λ _ r. by_test grant r
    (λ _ r. put_in (TouchFinds s t) r.4 tt)
    (λ _ r. put_in (TouchFinds s t) r tt))
touch_finds s t killed grant (at.Leave p) turn new h e row = put_in (TouchFinds s t) row tt

-- calls of other operations translate nothing
pub none_to_find : {P : Type 0} (call : P → Call) (s : State) (t : ℕ) (turn : Turn P) (new : Pool)
    → ((p : P) → to_translate (Some (call p)) ≡ None) → Finds s t new (left call turn)
none_to_find {P} call s t turn new none = none_at (left call turn) (by_turn turn)
  where
    none_at : (c : Option Call) → to_translate c ≡ None → Finds s t new c
    none_at c e = subst (λ (o : Option (ℕ × ℕ)). IfSome o (λ k. Reached new.size (λ u. to_pass (put s.calls t c u)) k.0 k.1)) (sym e) tt

    by_turn : (turn : Turn P) → to_translate (left call turn) ≡ None
    by_turn (Moved p) = none p
    by_turn (Blocked p u) = none p
    by_turn (Ended a) = refl

-- so each step of a call finds only what is reached
pub call_finds : (s : State) (t : ℕ) (killed grant : Bool) (c : Call) (o : Outcome) (new : Pool) (next : Option Call)
    → Inv s.geometry s → s.calls t ≡ Some c → CallRow (pool_of s) t killed grant c o new next → Finds s t new next
unfolding CallRow
call_finds s t killed grant (call.Touch p) o new next h e (turn, row, tells, last) =
    subst (Finds s t new) (sym last) (touch_finds s t killed grant p turn new h e row)
call_finds s t killed grant (call.Map p) o new next h e (turn, row, tells, last) =
    subst (Finds s t new) (sym last) (none_to_find call.Map s t turn new (λ p. refl))
call_finds s t killed grant (call.Alloc p) o new next h e (turn, row, tells, last) =
    subst (Finds s t new) (sym last) (none_to_find call.Alloc s t turn new (λ p. refl))
call_finds s t killed grant (call.Punch p) o new next h e (turn, row, tells, last) =
    subst (Finds s t new) (sym last) (none_to_find call.Punch s t turn new (λ p. refl))
call_finds s t killed grant (call.Truncate p) o new next h e (turn, row, tells, last) =
    subst (Finds s t new) (sym last) (none_to_find call.Truncate s t turn new (λ p. refl))
call_finds s t killed grant (call.Unmap p) o new next h e (turn, row, tells, last) =
    subst (Finds s t new) (sym last) (none_to_find call.Unmap s t turn new (λ p. refl))
call_finds s t killed grant (call.Exit p) o new next h e (turn, row, tells, last) =
    subst (Finds s t new) (sym last) (none_to_find call.Exit s t turn new (λ p. refl))
