-- A reserved index goes only under the file lock, and a truncation that is over leaves nothing.
use Rattle.std.proofs.Common.{◌≡◌, ℕ, ◌+◌, refl, ap, sym, ◌∙◌, subst, arith, inl, inr, ◌⊎◌}
use Rattle.std.specs.Prelude.{Bool, true, false, ◌&&◌, ◌||◌, ◌==◌, nat_le, nat_lt, max, is_some, Option, Some}
use Rattle.std.proofs.lemmas.Bool.Decides.{nat_tests}
use Rattle.hp_base.specs.Indices.{is_within}
use Rattle.hp_region.specs.Change.{Change}
use Rattle.hp_machine.specs.Standings.{Counts}
use Rattle.hp_base.specs.declared.answer.Answer.{Answer}
use Rattle.hp_base.specs.declared.answer.Answer.TheVariants as answer
use Rattle.hp_base.specs.declared.event.Event.{Event}
use Rattle.hp_base.specs.declared.event.Event.TheVariants.{Begin, Step, Kill, Resize}
use Rattle.hp_machine.specs.State.{Geometry, Pool, State, pool_of, with_pool, slot_of, is_killed}
use Rattle.hp_machine.specs.Parts.{unlocked}
use Rattle.hp_machine.specs.TruncateRows.{TruncateRow}
use Rattle.hp_machine.specs.Events.{Row, CallRow, IsReached, word_of, outcome_of}
use Rattle.hp_machine.specs.declared.phase.Phase.TheVariants as word
use Rattle.hp_machine.specs.declared.outcome.Outcome.{Outcome}
use Rattle.hp_machine.specs.declared.outcome.Outcome.TheVariants as outcome
use Rattle.hp_machine.specs.declared.touch.TouchPhase.TheVariants as touch
use Rattle.hp_machine.specs.declared.alloc.AllocPhase.TheVariants as alloc
use Rattle.hp_machine.specs.declared.punch.PunchPhase.TheVariants as punch
use Rattle.hp_machine.specs.declared.truncate.TruncatePhase.{TruncatePhase}
use Rattle.hp_machine.specs.declared.truncate.TruncatePhase.TheVariants as truncate
use Rattle.hp_machine.specs.declared.truncate.Leave.{Leave}
use Rattle.hp_machine.specs.declared.map.MapPhase.TheVariants as map
use Rattle.hp_machine.specs.declared.unmap.UnmapPhase.TheVariants as unmap
use Rattle.hp_machine.specs.declared.exit.ExitPhase.TheVariants as exit
use Rattle.hp_machine.specs.declared.call.Call.{Call}
use Rattle.hp_machine.specs.declared.call.Call.TheVariants as call
use Rattle.hp_machine.specs.declared.call.Turn.{Turn}
use Rattle.hp_machine.specs.declared.call.Turn.TheVariants.{Moved, Blocked, Ended}
use Rattle.hp_machine.specs.Views.{locked_file}
use Rattle.hp_laws.specs.Sweep.{to_pass, passed, gone}
use Rattle.hp_laws.specs.Protocol.{is_covered, counts_on, works_at, GoesUnderLock, truncation_of, IsCut}
use Rattle.hp_laws.proofs.Deciding.{from_on, never, clash, some_same}
use Rattle.hp_laws.proofs.Standing.{HasSlot, HasLock, Stands, IsOne}
use Rattle.hp_laws.proofs.Invariant.{Inv}
use Rattle.hp_laws.proofs.Passing.{to_pass_locked, locks_file, holds_slot, same_holder}
use Rattle.hp_laws.proofs.Shared.{by_test, by_option, stands_at}
use Rattle.hp_laws.proofs.Deletes.{deletes}
use Rattle.hp_laws.proofs.Reaching.{AllReached}
use Rattle.hp_laws.proofs.Runs.{Always, always, all_reached}
use Rattle.hp_laws.proofs.Apart.{works, passed_bare}
use Rattle.hp_laws.proofs.Reading.{begin_cases, step_cases, kill_cases, call_steps}
use Rattle.hp_laws.proofs.Resizing.{resize_cases}

-- two tests for equal numbers are two equations
same_pair : (a b f i : ℕ) → ((a == f) && (b == i)) ≡ true → (a ≡ f) × (b ≡ i)
same_pair a b f i e = (grind (arith, nat_tests), grind (arith, nat_tests))

-- two equations make one of pairs
of_pair : {k m f i : ℕ} → (k ≡ f) × (m ≡ i) → ◌≡◌ {A = Option (ℕ × ℕ)} (Some (k, m)) (Some (f, i))
of_pair {k} {m} {f} {i} d =
    let a : ◌≡◌ {A = Option (ℕ × ℕ)} (Some (k, m)) (Some (f, m)) = ap (λ (z : ℕ). Some (z, m)) d.0 in
    let b : ◌≡◌ {A = Option (ℕ × ℕ)} (Some (f, m)) (Some (f, i)) = ap (λ (z : ℕ). Some (f, z)) d.1 in
    a ∙ b

-- so do two tests
pair_of : (k m f i : ℕ) → ((k == f) && (m == i)) ≡ true → ◌≡◌ {A = Option (ℕ × ℕ)} (Some (k, m)) (Some (f, i))
pair_of k m f i e = of_pair (same_pair k m f i e)

-- a change of one index covers that one alone
within_one : (from to k m f i : ℕ) → from ≡ m → to ≡ m + 1 → ((k == f) && is_within from to i) ≡ true → (k ≡ f) × (m ≡ i)
within_one from to k m f i a b e = (grind (arith, nat_tests), grind (arith, nat_tests))

-- one of two tests that hold as a disjunction holds
either : (a b : Bool) → (a || b) ≡ true → (a ≡ true) ⊎ (b ≡ true)
either true b e = inl refl
either false b e = inr e

-- who counts on an index by a change or by a frame in the hand does so in its own file
file_of : (k f : ℕ) (b c : Bool) → (((k == f) && b) || ((k == f) && c)) ≡ true → Some k ≡ Some f
file_of k f b c e = ap (λ (m : ℕ). Some m) (of (either ((k == f) && b) ((k == f) && c) e))
  where
    of : (((k == f) && b) ≡ true) ⊎ (((k == f) && c) ≡ true) → k ≡ f
    of (inl a) = grind (arith, nat_tests)
    of (inr a) = grind (arith, nat_tests)

-- so with a change alone
file_left : (k f : ℕ) (b : Bool) → (((k == f) && b) || false) ≡ true → Some k ≡ Some f
file_left k f b e = ap (λ (m : ℕ). Some m) (of (either ((k == f) && b) false e))
  where
    of : (((k == f) && b) ≡ true) ⊎ (false ≡ true) → k ≡ f
    of (inl a) = grind (arith, nat_tests)
    of (inr a) = absurd (cc)

-- and with a frame in the hand alone
file_right : (k f : ℕ) (b : Bool) → ((k == f) && b) ≡ true → Some k ≡ Some f
file_right k f b e = let d : k ≡ f = grind (arith, nat_tests) in ap (λ (m : ℕ). Some m) d

-- a change of one index covers no other
one_covers : (change : Change) (k m f i : ℕ) (b : Bool) → IsOne change m → (b ≡ true → (k ≡ f) × (m ≡ i))
    → (((k == f) && is_within change.from change.to i) || b) ≡ true → ◌≡◌ {A = Option (ℕ × ℕ)} (Some (k, m)) (Some (f, i))
one_covers change k m f i b one other e = elim (either (is_covered (Counts k change) f i) b e) [
  | inl a ↦ of_pair (within_one change.from change.to k m f i one.begins one.ends a)
  | inr a ↦ of_pair (other a)
]

-- a call that counts on an index works there, or holds the file's lock
abbrev CountsOn : Option Call → (file index : ℕ) → Type 0
CountsOn c f i = (works_at c ≡ Some (f, i)) ⊎ (locked_file c ≡ Some f)

-- a call that counts on an index holds its slot, or the lock of its file, by its facts
counts_works : (g : Geometry) (s : State) (u : ℕ) (c : Option Call) (f i : ℕ) → Stands g s u c → counts_on c f i ≡ true → CountsOn c f i
counts_works g s u (Some (call.Touch (touch.Changed p))) f i h e =
    inl (one_covers p.pending p.touch.file p.touch.index f i false h.facts.one never e)
counts_works g s u (Some (call.Touch (touch.Taken p))) f i h e =
    inl (one_covers p.pending p.touch.file p.touch.index f i _ h.facts.one (same_pair p.touch.file p.touch.index f i) e)
counts_works g s u (Some (call.Touch (touch.Settle p))) f i h e = inl (pair_of p.touch.file p.touch.index f i e)
counts_works g s u (Some (call.Touch (touch.Committed p))) f i h e = inl (pair_of p.touch.file p.touch.index f i e)
counts_works g s u (Some (call.Touch (touch.Restore p))) f i h e = inl (pair_of p.touch.file p.touch.index f i e)
counts_works g s u (Some (call.Map (map.Changed p))) f i h e = inr (file_left p.map.file f _ e)
counts_works g s u (Some (call.Map (map.Accounted p))) f i h e = inr (file_left p.map.file f _ e)
counts_works g s u (Some (call.Alloc (alloc.Changed p))) f i h e = inr (file_left p.allocation.file f _ e)
counts_works g s u (Some (call.Alloc (alloc.Taken p))) f i h e = inr (file_of p.allocation.file f _ (p.index == i) e)
counts_works g s u (Some (call.Alloc (alloc.Settle p))) f i h e = inr (file_right p.allocation.file f (p.index == i) e)
counts_works g s u (Some (call.Alloc (alloc.Committed p))) f i h e = inr (file_right p.allocation.file f (p.index == i) e)
counts_works g s u (Some (call.Alloc (alloc.Restore p))) f i h e = inr (file_right p.allocation.file f (p.index == i) e)
counts_works g s u (Some (call.Punch (punch.Start _))) f i h e = let d : false ≡ true = e in absurd (cc)
counts_works g s u (Some (call.Truncate (truncate.Start _))) f i h e = let d : false ≡ true = e in absurd (cc)
counts_works g s u (Some (call.Unmap (unmap.Start _))) f i h e = let d : false ≡ true = e in absurd (cc)
counts_works g s u (Some (call.Exit exit.Start)) f i h e = let d : false ≡ true = e in absurd (cc)
counts_works g s u c f i h e = let d : false ≡ true = e in absurd (cc)

-- a test for a tail says the file
same_from : (a b f i : ℕ) → ((a == f) && nat_le b i) ≡ true → a ≡ f
same_from a b f i e = grind (arith, nat_tests)

-- who takes an index out of the reserve map
abbrev Deletes : State → ℕ → Call → ℕ → ℕ → Type 0
Deletes s t c f i =
    HasLock s t f × ((word_of c ≡ word.Delete) ⊎ (word_of c ≡ word.Tail))
    × ((passed (Some c) f i ≡ true) ⊎ HasSlot s.geometry s t f i)

-- a call whose next step takes an index out holds the lock of its file, and the slot or a passed index
deleter : (s : State) (t : ℕ) (c : Call) (f i : ℕ) → Stands s.geometry s t (Some c) → deletes (Some c) f i ≡ true → Deletes s t c f i
deleter s t (call.Punch (punch.Delete p)) f i y e =
    let o = same_pair p.hole.file p.index f i e in (
      ap s.locks (sym o.0) ∙ y.lock,
      inl refl,
      inr (ap (λ (m : ℕ). s.slots (slot_of s.geometry m i)) (sym o.0)
          ∙ (ap (λ (m : ℕ). s.slots (slot_of s.geometry p.hole.file m)) (sym o.1) ∙ y.slot)),
    )
deleter s t (call.Truncate (truncate.Tail p)) f i y e =
    (ap s.locks (sym (same_from p.truncation.file p.truncation.new f i e)) ∙ y.lock, inr refl, inl e)
deleter s t c f i y e = (let d : false ≡ true = e in absurd (cc))

-- a call that can't count on an index doesn't
unless_counted : (b : Bool) → (b ≡ true → ⊥) → b ≡ false
unless_counted true h = absurd (h refl)
unless_counted false h = refl

-- a reserved index that is reserved no more was taken out by a holder of the lock, and nobody counts on it
pub goes_under : (s : State) (event : Event) (o : Outcome) (n : State) (f i : ℕ) → Always s → Row s event o n
    → s.reserved f i ≡ true → n.reserved f i ≡ false → GoesUnderLock s event f i
goes_under s (Begin u p) o n f i h row a b = begin_cases s u p o n (GoesUnderLock s (Begin u p) f i) row
    (λ why e d. clash (s.reserved f i) a (ap (λ (m : State). m.reserved f i) (sym d) ∙ b))
    (λ lives none may e d. clash (s.reserved f i) a (ap (λ (m : State). m.reserved f i) (sym d) ∙ b))
goes_under s (Kill u) o n f i h row a b = kill_cases s u o n (GoesUnderLock s (Kill u) f i) row
    (λ why e d. clash (s.reserved f i) a (ap (λ (m : State). m.reserved f i) (sym d) ∙ b))
    (λ alive e d. clash (s.reserved f i) a (ap (λ (m : State). m.reserved f i) (sym d) ∙ b))
goes_under s (Resize size) o n f i h row a b = resize_cases s size o n (GoesUnderLock s (Resize size) f i) row
    (λ why e d. clash (s.reserved f i) a (ap (λ (m : State). m.reserved f i) (sym d) ∙ b))
    (λ told m frame e shifts _ d. clash (s.reserved f i) a (ap (λ (m : State). m.reserved f i) (sym d) ∙ b))
goes_under s (Step t grant) o n f i h row a b = step_cases s t grant o n (GoesUnderLock s (Step t grant) f i) row
    (λ why e d. clash (s.reserved f i) a (ap (λ (m : State). m.reserved f i) (sym d) ∙ b))
    (λ c lives e pool next r d.
    let is = h.lives.there t lives in
    let none : pool.reserved f i ≡ false = ap (λ (m : State). m.reserved f i) (sym d) ∙ b in
    elim (call_steps s t 0 (is_killed (s.life t)) grant c o pool next h.inv is.0 (let z = is.1 in omega arith) e r) [
      | inl w ↦ clash (s.reserved f i) a (ap (λ (m : Pool). m.reserved f i) (sym w.2) ∙ none)
      | inr w ↦ elim (w.keeps f i a) [
        | inl k ↦ clash (pool.reserved f i) k none
        | inr k ↦ (let y = deleter s t c f i (stands_at s t (Some c) h.inv e) k in (
          t,
          grant,
          c,
          refl,
          e,
          y.0,
          y.1,
          λ u apart. elim y.2 [
            | inl p ↦ unless_counted (counts_on (s.calls u) f i)
                (λ counts. elim (counts_works s.geometry s u (s.calls u) f i (h.inv.stands u) counts) [
                  | inl at ↦ (passed_bare s h t f i (inl (ap (λ (m : Option Call). passed m f i) e ∙ p))).1 u apart at
                  | inr lock ↦ apart (same_holder u t (s.locks f) (locks_file s.geometry s u f h.inv lock) y.0)
                ])
            | inr p ↦ unless_counted (counts_on (s.calls u) f i)
                (λ counts. elim (counts_works s.geometry s u (s.calls u) f i (h.inv.stands u) counts) [
                  | inl at ↦ apart (same_holder u t (s.slots (slot_of s.geometry f i))
                      (holds_slot s.geometry s u (f, i) h.inv (works s.geometry s u (s.calls u) (f, i) (h.inv.stands u) at).0) p)
                  | inr lock ↦ apart (same_holder u t (s.locks f) (locks_file s.geometry s u f h.inv lock) y.0)
                ])
          ],
        ))
      ]
    ])

-- so in every reached state
pub goes_under_lock : (s : State) (event : Event) (o : Outcome) (n : State) (f i : ℕ) → IsReached s → Row s event o n
    → s.reserved f i ≡ true → n.reserved f i ≡ false → GoesUnderLock s event f i
goes_under_lock s event o n f i reached row a b = goes_under s event o n f i (always s reached) row a b

-- a turn that ended with another answer hasn't ended with done
not_done : {P Q : Type 0} (turn : Turn P) (a : Answer) → (turn ≡ Ended a) → (a ≡ answer.Done → ⊥) → turn ≡ Ended answer.Done → Q
not_done {P} turn a e other d = absurd (other (same (sym e ∙ d)))
  where
    same : {a b : Answer} → ◌≡◌ {A = Turn P} (Ended a) (Ended b) → a ≡ b
    same z = cc

-- a turn that moved has not ended
not_moved : {P Q : Type 0} (turn : Turn P) (p : P) (a : Answer) → turn ≡ Moved p → turn ≡ Ended a → Q
not_moved {P} turn p a e d = (let z : ◌≡◌ {A = Turn P} (Moved p) (Ended a) = sym e ∙ d in absurd (cc))

-- nor has one that is blocked
not_blocked : {P Q : Type 0} (turn : Turn P) (p : P) (u : ℕ) (a : Answer) → turn ≡ Blocked p u → turn ≡ Ended a → Q
not_blocked {P} turn p u a e d = (let z : ◌≡◌ {A = Turn P} (Blocked p u) (Ended a) = sym e ∙ d in absurd (cc))

-- a truncation is done where it leaves its lock, and there alone
done_row : (s : State) (t : ℕ) (killed grant : Bool) (phase : TruncatePhase) (turn : Turn TruncatePhase) (new : Pool) (P : Type 0)
    → TruncateRow (pool_of s) t killed grant phase turn new → turn ≡ Ended answer.Done
    → ((p : Leave) → phase ≡ truncate.Leave p → new ≡ unlocked (pool_of s) p.truncation.file → P) → P
done_row s t killed grant (truncate.Start p) turn new P row d f =
    by_test (nat_le s.geometry.files p.truncation.file) row
    (λ _ r. not_done turn _ r.0 (λ z. cc) d)
    (λ _ r. by_test (nat_lt s.geometry.limit p.truncation.new) r
    (λ _ r. not_done turn _ r.0 (λ z. cc) d)
    (λ _ r. by_test killed r
    (λ _ r. not_done turn _ r.0 (λ z. cc) d)
    (λ _ r. by_option (s.locks p.truncation.file) r (λ _ r. not_moved turn _ _ r.0 d) (λ u _ r. not_blocked turn _ u _ r.0 d))))
done_row s t killed grant (truncate.Size p) turn new P (end, is_end, row) d f =
    by_test (nat_lt p.truncation.new (max (s.size p.truncation.file) end)) row (λ _ r. not_moved turn _ _ r.0 d)
    (λ _ r. not_moved turn _ _ r.0 d)
done_row s t killed grant (truncate.Want p) turn new P row d f =
    by_option (s.slots (slot_of s.geometry p.truncation.file p.index)) row (λ _ r. not_moved turn _ _ r.0 d)
    (λ u _ r. not_blocked turn _ u _ r.0 d)
done_row s t killed grant (truncate.Locked p) turn new P row d f =
    by_test (is_some (s.pages p.truncation.file p.index)) row (λ _ r. not_moved turn _ _ r.0 d) (λ _ r. not_moved turn _ _ r.0 d)
done_row s t killed grant (truncate.Unmap p) turn new P row d f =
    by_test (nat_lt p.task s.geometry.tasks) row (λ _ r. not_moved turn _ _ r.0 d) (λ _ r. not_moved turn _ _ r.0 d)
done_row s t killed grant (truncate.Evict p) turn new P (x, page, row) d f = not_moved turn _ _ row.0 d
done_row s t killed grant (truncate.Free p) turn new P row d f = not_moved turn _ _ row.0 d
done_row s t killed grant (truncate.Unslot p) turn new P row d f =
    by_test (nat_lt p.truncation.new p.index) row (λ _ r. not_moved turn _ _ r.0 d) (λ _ r. not_moved turn _ _ r.0 d)
done_row s t killed grant (truncate.Tail p) turn new P row d f = not_moved turn _ _ row.0 d
done_row s t killed grant (truncate.Settle p) turn new P (low, used, row) d f = not_moved turn _ _ row.0 d
done_row s t killed grant (truncate.Leave p) turn new P row d f = f p refl row.1

-- nothing is left where a truncation leaves
cut_at : (s : State) (t : ℕ) (p : Leave) → Inv s.geometry s → AllReached s → s.calls t ≡ Some (call.Truncate (truncate.Leave p))
    → IsCut s p.truncation.file p.truncation.new
cut_at s t p h k e =
    let y = stands_at s t (Some (call.Truncate (truncate.Leave p))) h e in
    let f = p.truncation.file in
    let new = p.truncation.new in
    let sized : s.size f ≡ new = y.facts.sized in
    record {
      translated = λ u v x j a q. elim (k.below u v x f j a q) [
        | inl l ↦ omega arith
        | inr w ↦ (let z : w.0 ≡ t = same_holder w.0 t (s.locks f)
            (locks_file s.geometry s w.0 f h (to_pass_locked (s.calls w.0) f j w.1)) y.lock in
            let c : false ≡ true = sym (ap (λ (k : Option Call). to_pass k f j) (ap s.calls z ∙ e)) ∙ w.1 in absurd (cc))
      ];
      cached = λ j l. (h.sweep.past t f j (ap (λ (k : Option Call). passed k f j) e ∙ from_on f new j l)).0;
      reserved = λ j l. h.sweep.gone t f j (ap (λ (k : Option Call). gone k f j) e ∙ from_on f new j l);
    }

-- a truncation that tells done has ended with it
told_done : (turn : Turn TruncatePhase) → outcome.Ended answer.Done ≡ outcome_of call.Truncate turn → turn ≡ Ended answer.Done
told_done (Moved p) e = (let z : outcome.Ended answer.Done ≡ outcome.Moved (word_of (call.Truncate p)) = e in absurd (cc))
told_done (Blocked p u) e = (let z : outcome.Ended answer.Done ≡ outcome.Blocked u = e in absurd (cc))
told_done (Ended a) e = ap (λ (b : Answer). Ended b) (same (sym e))
  where
    same : {a b : Answer} → outcome.Ended a ≡ outcome.Ended b → a ≡ b
    same z = cc

-- so the state after is cut at the new size
done_call : (s : State) (t : ℕ) (killed grant : Bool) (phase : TruncatePhase) (o : Outcome) (pool : Pool) (next : Option Call)
    → Inv s.geometry s → AllReached s → s.calls t ≡ Some (call.Truncate phase)
    → CallRow (pool_of s) t killed grant (call.Truncate phase) o pool next → o ≡ outcome.Ended answer.Done
    → IsCut (with_pool s pool) (truncation_of phase).file (truncation_of phase).new
unfolding CallRow
done_call s t killed grant phase o pool next h k e (turn, row, tells, leaves) is =
    done_row s t killed grant phase turn pool _ row (told_done turn (sym is ∙ tells)) (λ p q d.
    subst (λ (m : TruncatePhase). IsCut (with_pool s pool) (truncation_of m).file (truncation_of m).new) (sym q)
    (subst (λ (m : Pool). IsCut (with_pool s m) p.truncation.file p.truncation.new) (sym d)
    (cut_at s t p h k (e ∙ ap (λ (m : TruncatePhase). Some (call.Truncate m)) q))))

-- after a truncation has ended with done nothing is left from its new size on
pub truncation_leaves_nothing : (s : State) (t : ℕ) (grant : Bool) (phase : TruncatePhase) (n : State) → IsReached s
    → s.calls t ≡ Some (call.Truncate phase) → Row s (Step t grant) (outcome.Ended answer.Done) n
    → IsCut n (truncation_of phase).file (truncation_of phase).new
truncation_leaves_nothing s t grant phase n reached e row =
    step_cases s t grant (outcome.Ended answer.Done) n (IsCut n (truncation_of phase).file (truncation_of phase).new) row
    (λ why z d. (let y : outcome.Ended answer.Done ≡ outcome.Refused why = z in absurd (cc)))
    (λ c lives some pool next r d.
    subst (λ (m : State). IsCut m (truncation_of phase).file (truncation_of phase).new) (sym d)
    (done_call s t (is_killed (s.life t)) grant phase (outcome.Ended answer.Done) pool next (always s reached).inv (all_reached s reached) e
    (subst (λ (m : Call). CallRow (pool_of s) t (is_killed (s.life t)) grant m (outcome.Ended answer.Done) pool
    next) (some_same (sym some ∙ e)) r) refl))
