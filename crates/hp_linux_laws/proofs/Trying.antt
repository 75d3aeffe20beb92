-- How a step by repaired rows is found: of what they leave open, as Linux does it.
use Rattle.std.proofs.Common.{◌≡◌, ℕ, zero, suc, ◌<◌, ◌≤◌, refl, ap, ◌∙◌, arith, inl, inr, ◌⊎◌}
use Rattle.std.specs.Prelude.{◌&&◌, ◌==◌, Bool, true, false, nat_le, nat_lt, is_some, Option, Some, None, List}
use Rattle.std.proofs.lemmas.Bool.Decides.{nat_tests, eqb_tells}
use Rattle.hp_base.specs.Indices.{missing}
use Rattle.hp_base.specs.Numbers.{bit}
use Rattle.hp_region.specs.Change.{Change}
use Rattle.hp_base.specs.declared.event.Event.{Event}
use Rattle.hp_machine.specs.State.{Geometry, Pool}
use Rattle.hp_machine.specs.Events.{CallRow, EventRows}
use Rattle.hp_machine.specs.Headline.{vacant_in}
use Rattle.hp_machine.specs.declared.touch.TouchPhase.{TouchPhase}
use Rattle.hp_machine.specs.declared.touch.TouchPhase.TheVariants as touch
use Rattle.hp_machine.specs.declared.map.MapPhase.{MapPhase}
use Rattle.hp_machine.specs.declared.map.MapPhase.TheVariants as map
use Rattle.hp_machine.specs.declared.alloc.AllocPhase.{AllocPhase}
use Rattle.hp_machine.specs.declared.alloc.AllocPhase.TheVariants as alloc
use Rattle.hp_machine.specs.declared.punch.PunchPhase.{PunchPhase}
use Rattle.hp_machine.specs.declared.punch.PunchPhase.TheVariants as punch
use Rattle.hp_machine.specs.declared.truncate.Truncation.{Truncation}
use Rattle.hp_machine.specs.declared.truncate.TruncatePhase.{TruncatePhase}
use Rattle.hp_machine.specs.declared.truncate.TruncatePhase.TheVariants as truncate
use Rattle.hp_machine.specs.declared.call.Call.TheVariants as call
use Rattle.hp_machine.specs.declared.call.Turn.{Turn}
use Rattle.hp_machine.specs.declared.call.Turn.TheVariants.{Moved}
use Rattle.hp_counterexamples.proofs.Searching.{Clear, at_most, bind, le_of, pick}
use Rattle.hp_counterexamples.proofs.Steps.{Tried, by, goes, test, try_alloc, try_exit}
use Rattle.hp_counterexamples.proofs.Steps.{try_map, try_punch, try_touch, try_truncate, try_unmap}
use Rattle.hp_counterexamples.proofs.Breaking.{at_rest, both, equal, never, rests}
use Rattle.hp_counterexamples.proofs.Running.{Tries, TriesCalls}
use Rattle.hp_linux.specs.Whole.{Linux, begins}
use Rattle.hp_linux.proofs.Whole.{WholeRan, whole_ends, whole_run}
use Rattle.hp_linux.proofs.Trying.{page_first, unsized_committed, unsized_found}
use Rattle.hp_linux_laws.specs.RepairedRows.{RepairedTouch, RepairedMap, RepairedAlloc, RepairedPunch, RepairedTruncate, RepairedRow}
use Rattle.hp_linux_laws.specs.RepairedRows.{AccountedCommitRow, NextIndexRow}
use Rattle.hp_linux_laws.specs.RepairedRaces.{EndsRight}

-- a row that is one of two: the first, and the second
abbrev pub left_one : {P : Type 0} {A B : Turn P → Pool → Type 0} → Tried A → Tried (λ turn new. A turn new ⊎ B turn new)
left_one None = None
left_one (Some r) = Some (r.0, r.1, inl r.2, r.3)

abbrev pub right_one : {P : Type 0} {A B : Turn P → Pool → Type 0} → Tried B → Tried (λ turn new. A turn new ⊎ B turn new)
right_one None = None
right_one (Some r) = Some (r.0, r.1, inr r.2, r.3)

abbrev pub accounted : {P : Type 0} (s : Pool) (f : ℕ) (c : Change) (settle next : P) → Clear s.geometry.limit s.pages
    → Tried (AccountedCommitRow s f c settle next)
accounted s f c settle next h =
    test (nat_lt (missing (s.reserved f) c.from c.to) c.missing) (λ _. goes settle _ h) (λ _. goes next _ h)

-- the highest reserved index from a size on, or none
abbrev pub Last : (set : ℕ → Bool) → (new limit : ℕ) → Type 0
Last set new limit = ((i : ℕ) × (new ≤ i) × (i < limit)) ⊎ ((j : ℕ) → new ≤ j → j < limit → set j ≡ false)

pub none_low : (set : ℕ → Bool) (new n : ℕ) → nat_le new n ≡ false → (j : ℕ) → new ≤ j → j < suc n → set j ≡ false
none_low set new n e j a b = (let z : n < new = grind (arith, nat_tests) in absurd (omega arith))

pub none_here : (set : ℕ → Bool) (new n : ℕ) → set n ≡ false → ((j : ℕ) → new ≤ j → j < n → set j ≡ false) → (j : ℕ) → new ≤ j
    → j < suc n → set j ≡ false
none_here set new n e h j a b = elim (eqb_tells j n) [
  | inl d ↦ ap set d.1 ∙ e
  | inr d ↦ h j a (let z = d.1 in omega arith)
]

pub below_next : (n : ℕ) → n < suc n
below_next n = omega arith

pub lower : (i n : ℕ) → i < n → i < suc n
lower i n l = omega arith

pub none_below_zero : (set : ℕ → Bool) (new j : ℕ) → new ≤ j → j < 0 → set j ≡ false
none_below_zero set new j a b = absurd (omega arith)

abbrev pub last : (set : ℕ → Bool) (new limit : ℕ) → Last set new limit
last set new zero = inr (none_below_zero set new)
last set new (suc n) =
    pick (nat_le new n)
    (λ a. pick (set n) (λ e. inl (n, le_of new n a, below_next n)) (λ e. elim (last set new n) [
      | inl i ↦ inl (i.0, i.1, lower i.0 n i.2)
      | inr h ↦ inr (none_here set new n e h)
    ]))
    (λ e. inr (none_low set new n e))

abbrev pub next_index : (s : Pool) (p : Truncation) (after : Pool) → Clear after.geometry.limit after.pages → Tried (NextIndexRow s p after)
next_index s p after h = elim (last (s.reserved p.file) p.new s.geometry.limit) [
  | inl i ↦ Some (Moved _, after, inl (i.0, i.1, i.2, (refl, refl)), h)
  | inr none ↦ Some (Moved _, after, inr (none, (refl, refl)), h)
]

-- ---- the operations

abbrev pub repaired_touch : (s : Pool) (t : ℕ) (killed grant : Bool) (phase : TouchPhase) → Clear s.geometry.limit s.pages
    → Tried (RepairedTouch s t killed grant phase)
repaired_touch s t killed grant (touch.Look p) h = try_touch s t killed grant (touch.Look p) h
repaired_touch s t killed grant (touch.Want p) h = try_touch s t killed grant (touch.Want p) h
repaired_touch s t killed grant (touch.Locked p) h = right_one (page_first s p h)
repaired_touch s t killed grant (touch.Missing p) h = left_one (try_touch s t killed grant (touch.Missing p) h)
repaired_touch s t killed grant (touch.Changed p) h = left_one (try_touch s t killed grant (touch.Changed p) h)
repaired_touch s t killed grant (touch.Abort p) h = try_touch s t killed grant (touch.Abort p) h
repaired_touch s t killed grant (touch.Taken p) h = accounted s p.touch.file p.pending _ _ h
repaired_touch s t killed grant (touch.Settle p) h = bind (at_most 1 s.resv) (λ low. Some (Moved _, _, (low, (refl, refl)), h))
repaired_touch s t killed grant (touch.Committed p) h = right_one (unsized_committed s grant p h)
repaired_touch s t killed grant (touch.Restore p) h = goes _ _ h
repaired_touch s t killed grant (touch.Found p) h = right_one (unsized_found s t grant p h)
repaired_touch s t killed grant (touch.Leave p) h = try_touch s t killed grant (touch.Leave p) h

abbrev pub repaired_map : (s : Pool) (t : ℕ) (killed grant : Bool) (phase : MapPhase) → Clear s.geometry.limit s.pages
    → Tried (RepairedMap s t killed grant phase)
repaired_map s t killed grant (map.Start p) h = try_map s t killed grant (map.Start p) h
repaired_map s t killed grant (map.Room p) h = try_map s t killed grant (map.Room p) h
repaired_map s t killed grant (map.Missing p) h = left_one (try_map s t killed grant (map.Missing p) h)
repaired_map s t killed grant (map.Changed p) h = left_one (try_map s t killed grant (map.Changed p) h)
repaired_map s t killed grant (map.Abort p) h = try_map s t killed grant (map.Abort p) h
repaired_map s t killed grant (map.Accounted p) h = accounted s p.map.file p.pending _ _ h
repaired_map s t killed grant (map.Settle p) h = bind (at_most p.excess s.resv) (λ low. Some (Moved _, _, (low, (refl, refl)), h))
repaired_map s t killed grant (map.Enter p) h = try_map s t killed grant (map.Enter p) h
repaired_map s t killed grant (map.Leave p) h = try_map s t killed grant (map.Leave p) h

abbrev pub repaired_alloc : (s : Pool) (t : ℕ) (killed grant : Bool) (phase : AllocPhase) → Clear s.geometry.limit s.pages
    → Tried (RepairedAlloc s t killed grant phase)
repaired_alloc s t killed grant (alloc.Start p) h = try_alloc s t killed grant (alloc.Start p) h
repaired_alloc s t killed grant (alloc.Head p) h = try_alloc s t killed grant (alloc.Head p) h
repaired_alloc s t killed grant (alloc.Want p) h = try_alloc s t killed grant (alloc.Want p) h
repaired_alloc s t killed grant (alloc.Locked p) h = try_alloc s t killed grant (alloc.Locked p) h
repaired_alloc s t killed grant (alloc.Missing p) h = left_one (try_alloc s t killed grant (alloc.Missing p) h)
repaired_alloc s t killed grant (alloc.Changed p) h = left_one (try_alloc s t killed grant (alloc.Changed p) h)
repaired_alloc s t killed grant (alloc.Abort p) h = try_alloc s t killed grant (alloc.Abort p) h
repaired_alloc s t killed grant (alloc.Taken p) h = accounted s p.allocation.file p.pending _ _ h
repaired_alloc s t killed grant (alloc.Settle p) h = bind (at_most 1 s.resv) (λ low. Some (Moved _, _, (low, (refl, refl)), h))
repaired_alloc s t killed grant (alloc.Committed p) h = try_alloc s t killed grant (alloc.Committed p) h
repaired_alloc s t killed grant (alloc.Restore p) h = goes _ _ h
repaired_alloc s t killed grant (alloc.Unslot p) h = try_alloc s t killed grant (alloc.Unslot p) h
repaired_alloc s t killed grant (alloc.Extend p) h = try_alloc s t killed grant (alloc.Extend p) h
repaired_alloc s t killed grant (alloc.Leave p) h = try_alloc s t killed grant (alloc.Leave p) h

abbrev pub repaired_punch : (s : Pool) (t : ℕ) (killed grant : Bool) (phase : PunchPhase) → Clear s.geometry.limit s.pages
    → Tried (RepairedPunch s t killed grant phase)
repaired_punch s t killed grant (punch.Start p) h = try_punch s t killed grant (punch.Start p) h
repaired_punch s t killed grant (punch.Want p) h = left_one (try_punch s t killed grant (punch.Want p) h)
repaired_punch s t killed grant (punch.Locked p) h = try_punch s t killed grant (punch.Locked p) h
repaired_punch s t killed grant (punch.Unmap p) h = try_punch s t killed grant (punch.Unmap p) h
repaired_punch s t killed grant (punch.Evict p) h = try_punch s t killed grant (punch.Evict p) h
repaired_punch s t killed grant (punch.Delete p) h =
    test (s.reserved p.hole.file p.index) (λ _. left_one (try_punch s t killed grant (punch.Delete p) h)) (λ _. goes _ _ h)
repaired_punch s t killed grant (punch.Free p) h = left_one (try_punch s t killed grant (punch.Free p) h)
repaired_punch s t killed grant (punch.Unslot p) h = try_punch s t killed grant (punch.Unslot p) h
repaired_punch s t killed grant (punch.Leave p) h = try_punch s t killed grant (punch.Leave p) h

abbrev pub repaired_truncate : (s : Pool) (t : ℕ) (killed grant : Bool) (phase : TruncatePhase) → Clear s.geometry.limit s.pages
    → Tried (RepairedTruncate s t killed grant phase)
repaired_truncate s t killed grant (truncate.Start p) h = try_truncate s t killed grant (truncate.Start p) h
repaired_truncate s t killed grant (truncate.Size p) h = next_index s p.truncation _ h
repaired_truncate s t killed grant (truncate.Want p) h = try_truncate s t killed grant (truncate.Want p) h
repaired_truncate s t killed grant (truncate.Locked p) h =
    test (is_some (s.pages p.truncation.file p.index)) (λ _. goes _ s h)
    (λ _. bind (at_most (bit (s.reserved p.truncation.file p.index)) s.resv) (λ low. Some (Moved _, _, inl (low, (refl, refl)), h)))
repaired_truncate s t killed grant (truncate.Unmap p) h = try_truncate s t killed grant (truncate.Unmap p) h
repaired_truncate s t killed grant (truncate.Evict p) h = try_truncate s t killed grant (truncate.Evict p) h
repaired_truncate s t killed grant (truncate.Free p) h = Some (Moved _, _, inl (inl (refl, refl)), h)
repaired_truncate s t killed grant (truncate.Unslot p) h = next_index s p.truncation _ h
repaired_truncate s t killed grant (truncate.Tail p) h = None
repaired_truncate s t killed grant (truncate.Settle p) h = None
repaired_truncate s t killed grant (truncate.Leave p) h = try_truncate s t killed grant (truncate.Leave p) h

abbrev pub try_RepairedRow : TriesCalls RepairedRow
unfolding RepairedRow CallRow
try_RepairedRow s t killed grant (call.Touch p) h = by call.Touch _ (repaired_touch s t killed grant p h)
try_RepairedRow s t killed grant (call.Map p) h = by call.Map _ (repaired_map s t killed grant p h)
try_RepairedRow s t killed grant (call.Alloc p) h = by call.Alloc _ (repaired_alloc s t killed grant p h)
try_RepairedRow s t killed grant (call.Punch p) h = by call.Punch _ (repaired_punch s t killed grant p h)
try_RepairedRow s t killed grant (call.Truncate p) h = by call.Truncate _ (repaired_truncate s t killed grant p h)
try_RepairedRow s t killed grant (call.Unmap p) h = by call.Unmap _ (try_unmap s t killed grant p h)
try_RepairedRow s t killed grant (call.Exit p) h = by call.Exit _ (try_exit s t killed grant p h)

-- ---- a race that ends right, computed

abbrev pub ends_right : (counted : ℕ) → Linux → Bool
ends_right counted l = rests l.state && ((l.state.resv == counted) && ((l.debt == 0) && (vacant_in l.state == counted)))

pub ends_right_so : (rows : EventRows) (tries : Tries rows) (g : Geometry) (frames : ℕ) (events : List Event) (counted : ℕ)
    → whole_ends rows (begins g frames) events (ends_right counted) (whole_run rows tries (begins g frames) events (λ f i l. refl)) ≡ true
    → EndsRight rows g frames events counted
ends_right_so rows tries g frames events counted e = here (whole_run rows tries (begins g frames) events (λ f i l. refl)) e
  where
    here : (o : Option (WholeRan rows (begins g frames) events)) → whole_ends rows (begins g frames) events (ends_right counted) o ≡ true
        → EndsRight rows g frames events counted
    here None e = never e
    here (Some r) e =
        let a = both (rests r.1.state) _ e in
        let b = both (r.1.state.resv == counted) _ a.1 in
        let c = both (r.1.debt == 0) _ b.1 in
        (r.0, r.1, r.2, r.3, at_rest r.1.state a.0, equal _ _ b.0, equal _ _ c.0, equal _ _ c.1)
