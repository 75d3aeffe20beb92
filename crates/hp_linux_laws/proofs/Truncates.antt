-- Each step of a truncation as entries.
use Rattle.std.proofs.Common.{◌≡◌, ℕ, ◌+◌, ◌-◌, ◌<◌, ◌≤◌, refl, ap, sym, ◌∙◌, arith, inl, inr}
use Rattle.std.specs.Prelude.{Bool, true, false, nat_lt, min, max, is_some, Option, Some, None, [], ◌∷◌}
use Rattle.hp_base.specs.Indices.{count_within, cut_tail}
use Rattle.hp_base.specs.Numbers.{put, put2, bit}
use Rattle.hp_base.specs.Pages.{IsPagesEnd}
use Rattle.hp_base.specs.declared.answer.Answer.TheVariants as answer
use Rattle.hp_base.proofs.Puts.{put_same, put_other, put_tells}
use Rattle.hp_frames.specs.declared.frame.FrameState.TheVariants as frame
use Rattle.hp_machine.specs.State.{Pool, pool_of}
use Rattle.hp_machine.specs.Events.{left}
use Rattle.hp_machine.specs.Parts.{unslotted}
use Rattle.hp_machine.specs.TruncateRows.{TruncateRow}
use Rattle.hp_machine.specs.declared.truncate.Start.{Start}
use Rattle.hp_machine.specs.declared.truncate.Size.{Size}
use Rattle.hp_machine.specs.declared.truncate.Want.{Want}
use Rattle.hp_machine.specs.declared.truncate.Locked.{Locked}
use Rattle.hp_machine.specs.declared.truncate.Unmap.{Unmap}
use Rattle.hp_machine.specs.declared.truncate.Evict.{Evict}
use Rattle.hp_machine.specs.declared.truncate.Free.{Free}
use Rattle.hp_machine.specs.declared.truncate.Unslot.{Unslot}
use Rattle.hp_machine.specs.declared.truncate.Tail.{Tail}
use Rattle.hp_machine.specs.declared.truncate.Settle.{Settle}
use Rattle.hp_machine.specs.declared.truncate.Leave.{Leave}
use Rattle.hp_machine.specs.declared.truncate.TruncatePhase.{TruncatePhase}
use Rattle.hp_machine.specs.declared.truncate.TruncatePhase.TheVariants as at
use Rattle.hp_machine.specs.declared.call.Call.{Call}
use Rattle.hp_machine.specs.declared.call.Call.TheVariants as call
use Rattle.hp_machine.specs.declared.call.Turn.{Turn}
use Rattle.hp_laws.proofs.Deciding.{lt, le, clash}
use Rattle.hp_laws.proofs.Shared.{by_test}
use Rattle.hp_laws.proofs.TouchDid.{no_page}
use Rattle.hp_accounts.specs.Books.{Bare, place_of, bare_of}
use Rattle.hp_accounts.specs.Entries.{Looks, Deletes, Frees, GivesBack, HandsOver, Ignores, Settles, CutsTail}
use Rattle.hp_linux_laws.specs.MayRows.{MayTruncate}
use Rattle.hp_linux_laws.specs.RepairedRows.{RepairedTruncate, TakesOutRow, TakesOutPagedRow, NextIndexRow}
use Rattle.hp_linux_laws.specs.RepairedRows.{AccountedTailRow, AccountedTruncate}
use Rattle.hp_linux_laws.proofs.Standing.{Fits}
use Rattle.hp_linux_laws.proofs.Stepping.{From, Booked, same_hands, in_hand, owes, has_promised, quiet, went, over}
use Rattle.hp_linux_laws.proofs.Making.{wants_slot, leaves_slot}
use Rattle.hp_linux_laws.proofs.Removing.{starts, turns, clears_index, evicts}

abbrev pub In : TruncatePhase → Type 0
In p = From (call.Truncate p)

abbrev pub Steps : (p : TruncatePhase) → In p → Turn TruncatePhase → Pool → Type 0
Steps p k turn new = Booked (call.Truncate p) k new (left call.Truncate turn)

at_most_one : (b : Bool) → bit b ≤ 1
at_most_one true = omega arith
at_most_one false = omega arith

truncate_start : (p : Start) (k : In (at.Start p)) (killed grant : Bool) (turn : Turn TruncatePhase) (new : Pool)
    → TruncateRow (pool_of k.state) k.task killed grant (at.Start p) turn new → Steps (at.Start p) k turn new
truncate_start p k killed grant turn new row =
    starts call.Truncate _ k killed p.truncation.file (nat_lt k.state.geometry.limit p.truncation.new) answer.Killed (at.Start p)
    (at.Size (record { truncation = p.truncation })) turn new row (quiet _ k _ None refl refl refl k.stands k.fits)
    (quiet _ k _ _ refl refl refl k.stands k.fits)
    (λ file good. quiet _ k _ _ refl refl refl (k.stands, file, le k.state.geometry.limit p.truncation.new good) k.fits)

-- the size is set
sized : (p : Size) (k : In (at.Size p)) → Fits k.state.geometry (put k.state.size p.truncation.file p.truncation.new) k.state.pages
sized p k = (
  λ f. elim (put_tells k.state.size p.truncation.file p.truncation.new f) [
    | inl q ↦ (let a = q.1 in let b = k.stands.2 in omega arith)
    | inr q ↦ (let a = q.1 in let b = k.fits.0 f in omega arith)
  ],
  k.fits.1,
)

-- pages end below the limit
page_end : (p : Size) (k : In (at.Size p)) (end : ℕ) → IsPagesEnd (k.state.pages p.truncation.file) end → end ≤ k.state.geometry.limit
page_end p k end is = is.1 k.state.geometry.limit (λ i l. none i l (k.state.pages p.truncation.file i) refl)
  where
    none : (i : ℕ) → k.state.geometry.limit ≤ i → (o : Option ℕ) → k.state.pages p.truncation.file i ≡ o
        → k.state.pages p.truncation.file i ≡ None
    none i l None e = e
    none i l (Some x) e = (let a = k.fits.1 p.truncation.file i x e in absurd (omega arith))

truncate_size : (p : Size) (k : In (at.Size p)) (killed grant : Bool) (turn : Turn TruncatePhase) (new : Pool)
    → MayTruncate (pool_of k.state) k.task killed grant (at.Size p) turn new → Steps (at.Size p) k turn new
truncate_size p k killed grant turn new (inl (end, is, row)) =
    by_test (nat_lt p.truncation.new (max (k.state.size p.truncation.file) end)) row
    (λ above r. went call.Truncate _ k _ _ turn new r
    (quiet _ k _ _ refl refl refl (k.stands.0, (k.stands.1, k.stands.2, index above, λ e. refl)) (sized p k)))
    (λ _ r. went call.Truncate _ k _ _ turn new r (quiet _ k _ _ refl refl refl (k.stands.0, k.stands.1) (sized p k)))
  where
    index : nat_lt p.truncation.new (max (k.state.size p.truncation.file) end) ≡ true
        → max (k.state.size p.truncation.file) end - 1 < k.state.geometry.limit
    index above =
        let a = page_end p k end is in
        let b = k.fits.0 p.truncation.file in
        let d = lt p.truncation.new (max (k.state.size p.truncation.file) end) above in
        omega arith
truncate_size p k killed grant turn new (inr (inl r)) =
    went call.Truncate _ k _ _ turn new r.3
    (quiet _ k _ _ refl refl refl (k.stands.0, (k.stands.1, k.stands.2, r.2, λ e. refl)) (sized p k))
truncate_size p k killed grant turn new (inr (inr r)) =
    went call.Truncate _ k _ _ turn new r (quiet _ k _ _ refl refl refl (k.stands.0, k.stands.1) (sized p k))

slot_wanted : (p : Want) (k : In (at.Want p)) (killed grant : Bool) (turn : Turn TruncatePhase) (new : Pool)
    → TruncateRow (pool_of k.state) k.task killed grant (at.Want p) turn new → Steps (at.Want p) k turn new
slot_wanted p k killed grant turn new r =
    wants_slot call.Truncate _ k p.truncation.file p.index (at.Want p)
    (at.Locked (record { truncation = p.truncation; index = p.index; evicted = p.evicted })) turn new r refl refl
    k.stands.1.0 k.stands.1.2 k.stands.0 (λ m e. (e, k.stands.1))

truncate_want : (p : Want) (k : In (at.Want p)) (killed grant : Bool) (turn : Turn TruncatePhase) (new : Pool)
    → MayTruncate (pool_of k.state) k.task killed grant (at.Want p) turn new → Steps (at.Want p) k turn new
truncate_want p k killed grant turn new (inl r) = slot_wanted p k killed grant turn new r
truncate_want p k killed grant turn new (inr (inl row)) =
    by_test (nat_lt p.truncation.new p.index) row
    (λ _ r. went call.Truncate _ k _ _ turn new r (quiet _ k _ _ refl refl refl
    (k.stands.0, (k.stands.1.0, k.stands.1.1, (let a = k.stands.1.2 in omega arith), k.stands.1.3)) k.fits))
    (λ _ r. went call.Truncate _ k _ _ turn new r (quiet _ k _ _ refl refl refl (k.stands.0, k.stands.1.0) k.fits))
truncate_want p k killed grant turn new (inr (inr (inl r))) =
    went call.Truncate _ k _ _ turn new r.3
    (quiet _ k _ _ refl refl refl (k.stands.0, (k.stands.1.0, k.stands.1.1, r.2, k.stands.1.3)) k.fits)
truncate_want p k killed grant turn new (inr (inr (inr r))) =
    went call.Truncate _ k _ _ turn new r (quiet _ k _ _ refl refl refl (k.stands.0, k.stands.1.0) k.fits)

-- a page is found
turned : (p : Locked) (k : In (at.Locked p)) → Booked (call.Truncate (at.Locked p)) k (pool_of k.state)
    (Some (call.Truncate (at.Unmap (record { truncation = p.truncation; index = p.index; evicted = p.evicted; task = 1 }))))
turned p k = turns _ k p.truncation.file p.index _ refl (ap place_of k.stands.0) (λ m e. (e, k.stands.1))

-- none is, and the index is passed
passed : (p : Locked) (k : In (at.Locked p)) → Booked (call.Truncate (at.Locked p)) k (pool_of k.state)
    (Some (call.Truncate (at.Unslot (record { truncation = p.truncation; index = p.index; evicted = p.evicted }))))
passed p k = quiet _ k _ _ refl refl refl (ap place_of k.stands.0, k.stands.1) k.fits

truncate_locked : (p : Locked) (k : In (at.Locked p)) (killed grant : Bool) (turn : Turn TruncatePhase) (new : Pool)
    → TruncateRow (pool_of k.state) k.task killed grant (at.Locked p) turn new → Steps (at.Locked p) k turn new
truncate_locked p k killed grant turn new row =
    by_test (is_some (k.state.pages p.truncation.file p.index)) row
    (λ _ r. went call.Truncate _ k _ _ turn new r (turned p k))
    (λ _ r. went call.Truncate _ k _ _ turn new r (passed p k))

-- or taken out of the map, and given back if it was in it
taken_out : (p : Locked) (k : In (at.Locked p)) → k.state.pages p.truncation.file p.index ≡ None
    → bit (k.state.reserved p.truncation.file p.index) ≤ k.state.resv
    → Booked (call.Truncate (at.Locked p)) k (record (pool_of k.state) {
      reserved = put2 k.state.reserved p.truncation.file p.index false;
      resv = k.state.resv - bit (k.state.reserved p.truncation.file p.index);
    }) (Some (call.Truncate (at.Unslot (record { truncation = p.truncation; index = p.index; evicted = p.evicted }))))
taken_out p k none low =
    let f = p.truncation.file in
    let bare = Bare f p.index in
    record {
      es = Looks k.task f p.index ∷ Deletes k.task f p.index (bit (k.state.reserved f p.index)) 0
          ∷ Settles (bit (k.state.reserved f p.index)) ∷ [];
      may = (
        (ap place_of k.stands.0, none),
        ((ap bare_of (put_same k.marks k.task bare), (omega arith), (omega arith)), ((omega arith), tt)),
      );
      careful = λ e. (tt, (tt, (tt, tt)));
      exact = λ e. refl;
      tables = refl;
      hands = inl (same_hands _ k (Some (call.Truncate (at.Locked p))) refl);
      owed = omega arith;
      promised = omega arith;
      marks = λ u d. put_other (put k.marks k.task bare) k.task bare u d ∙ put_other k.marks k.task bare u d;
      count = omega arith;
      stands = (ap place_of (put_same (put k.marks k.task bare) k.task bare), k.stands.1);
      others = λ u d. (refl, λ v x e. e);
      ranges = k.ranges;
      fits = k.fits;
    }

repaired_locked : (p : Locked) (k : In (at.Locked p)) (turn : Turn TruncatePhase) (new : Pool)
    → TakesOutRow (pool_of k.state) p turn new → Steps (at.Locked p) k turn new
repaired_locked p k turn new row =
    by_test (is_some (k.state.pages p.truncation.file p.index)) row
    (λ _ r. went call.Truncate _ k _ _ turn new r (turned p k))
    (λ none r. elim r [
      | inl q ↦ went call.Truncate _ k _ _ turn new q.1 (taken_out p k (no_page _ none) q.0)
      | inr q ↦ went call.Truncate _ k _ _ turn new q (passed p k)
    ])

truncate_unmap : (p : Unmap) (k : In (at.Unmap p)) (killed grant : Bool) (turn : Turn TruncatePhase) (new : Pool)
    → TruncateRow (pool_of k.state) k.task killed grant (at.Unmap p) turn new → Steps (at.Unmap p) k turn new
truncate_unmap p k killed grant turn new row =
    clears_index call.Truncate _ k p.task p.truncation.file p.index
    (at.Unmap (record { truncation = p.truncation; index = p.index; evicted = p.evicted; task = p.task + 1 }))
    (at.Evict (record { truncation = p.truncation; index = p.index; evicted = p.evicted })) turn new row refl refl k.stands.0
    (λ m es e. (e, k.stands.1)) (λ m es e. (e, k.stands.1))

truncate_evict : (p : Evict) (k : In (at.Evict p)) (killed grant : Bool) (turn : Turn TruncatePhase) (new : Pool)
    → TruncateRow (pool_of k.state) k.task killed grant (at.Evict p) turn new → Steps (at.Evict p) k turn new
truncate_evict p k killed grant turn new row =
    let y = k.stands.1 in
    evicts call.Truncate _ k p.truncation.file p.index
    (λ x. at.Free (record { truncation = p.truncation; index = p.index; evicted = p.evicted + 1; held = x })) turn new row refl
    (λ x. (refl, refl, refl)) k.stands.0
    (λ m x e. (e, (y.0, y.1, y.2, λ tight. (let z = y.3 tight in omega arith))))

-- where a page's index leads
abbrev pub behind_it : Free → (evicted : ℕ) → Call
behind_it p n = call.Truncate (at.Unslot (record { truncation = p.truncation; index = p.index; evicted = n }))

-- its frame is freed
freed : (p : Free) (k : In (at.Free p)) → k.careful ≡ false
    → Booked (call.Truncate (at.Free p)) k (record (pool_of k.state) { frame = put k.state.frame p.held frame.Free })
    (Some (behind_it p p.evicted))
freed p k wild = let y = k.stands.1 in record {
  es = Frees k.task p.held ∷ [];
  may = (in_hand _ k, tt);
  careful = λ e. (tt, tt);
  exact = λ e. refl;
  tables = refl;
  hands = inl refl;
  owed = refl;
  promised = refl;
  marks = λ u d. refl;
  count = omega arith;
  stands = (ap place_of k.stands.0, (y.0, y.1, y.2, λ e. clash k.careful e wild));
  others = λ u d. (refl, λ v x e. e);
  ranges = k.ranges;
  fits = k.fits;
}

-- or left to become free later
left_to_be_free : (p : Free) (k : In (at.Free p)) → k.careful ≡ false → Booked (call.Truncate (at.Free p)) k (pool_of k.state)
    (Some (behind_it p p.evicted))
left_to_be_free p k wild = let y = k.stands.1 in record {
  es = HandsOver k.task (k.state.geometry.tasks + 1 + p.held) p.held ∷ [];
  may = ((k.held, k.spare p.held refl), tt);
  careful = λ e. (tt, tt);
  exact = λ e. refl;
  tables = refl;
  hands = inr (p.held, refl, refl, refl);
  owed = refl;
  promised = refl;
  marks = λ u d. refl;
  count = omega arith;
  stands = (ap place_of k.stands.0, (y.0, y.1, y.2, λ e. clash k.careful e wild));
  others = λ u d. (refl, λ v x e. e);
  ranges = k.ranges;
  fits = k.fits;
}

truncate_free : (p : Free) (k : In (at.Free p)) (killed grant : Bool) (turn : Turn TruncatePhase) (new : Pool) → k.careful ≡ false
    → MayTruncate (pool_of k.state) k.task killed grant (at.Free p) turn new → Steps (at.Free p) k turn new
truncate_free p k killed grant turn new wild (inl r) = went call.Truncate _ k _ _ turn new r (freed p k wild)
truncate_free p k killed grant turn new wild (inr r) = went call.Truncate _ k _ _ turn new r (left_to_be_free p k wild)

-- a page's index is taken out with it; what is owed is given back where it wasn't in the map
taken_out_paged : (p : Free) (k : In (at.Free p)) → k.careful ≡ true → Booked (call.Truncate (at.Free p)) k (record (pool_of k.state) {
  frame = put k.state.frame p.held frame.Free;
  reserved = put2 k.state.reserved p.truncation.file p.index false;
  resv = k.state.resv + (1 - bit (k.state.reserved p.truncation.file p.index));
}) (Some (behind_it p (p.evicted - 1)))
taken_out_paged p k tight =
    let f = p.truncation.file in
    let bare = Bare f p.index in
    let y = k.stands.1 in
    let z = y.3 tight in
    let o = owes _ k in
    let l = at_most_one (k.state.reserved f p.index) in
    record {
      es = Frees k.task p.held ∷ Deletes k.task f p.index 0 (bit (k.state.reserved f p.index))
          ∷ GivesBack (1 - bit (k.state.reserved f p.index)) ∷ [];
      may = (in_hand _ k, ((ap bare_of k.stands.0, (omega arith), (omega arith)), ((omega arith), tt)));
      careful = λ e. (tt, (tt, (tt, tt)));
      exact = λ e. refl;
      tables = refl;
      hands = inl refl;
      owed = omega arith;
      promised = omega arith;
      marks = λ u d. put_other k.marks k.task bare u d;
      count = omega arith;
      stands = (ap place_of (put_same k.marks k.task bare), (y.0, y.1, y.2, λ e. (omega arith)));
      others = λ u d. (refl, λ v x e. e);
      ranges = k.ranges;
      fits = k.fits;
    }

-- or stays, and is counted
stays_in : (p : Free) (k : In (at.Free p)) → k.careful ≡ true → Booked (call.Truncate (at.Free p)) k (record (pool_of k.state) {
  frame = put k.state.frame p.held frame.Free;
  resv = k.state.resv + 1;
}) (Some (behind_it p (p.evicted - 1)))
stays_in p k tight =
    let y = k.stands.1 in
    let z = y.3 tight in
    let o = owes _ k in
    record {
      es = Frees k.task p.held ∷ GivesBack 1 ∷ [];
      may = (in_hand _ k, ((omega arith), tt));
      careful = λ e. (tt, (tt, tt));
      exact = λ e. refl;
      tables = refl;
      hands = inl refl;
      owed = omega arith;
      promised = omega arith;
      marks = λ u d. refl;
      count = omega arith;
      stands = (ap place_of k.stands.0, (y.0, y.1, y.2, λ e. (omega arith)));
      others = λ u d. (refl, λ v x e. e);
      ranges = k.ranges;
      fits = k.fits;
    }

-- and both while its frame is left to become free later
taken_out_late : (p : Free) (k : In (at.Free p)) → k.careful ≡ true → Booked (call.Truncate (at.Free p)) k (record (pool_of k.state) {
  reserved = put2 k.state.reserved p.truncation.file p.index false;
  resv = k.state.resv + (1 - bit (k.state.reserved p.truncation.file p.index));
}) (Some (behind_it p (p.evicted - 1)))
taken_out_late p k tight =
    let f = p.truncation.file in
    let bare = Bare f p.index in
    let y = k.stands.1 in
    let z = y.3 tight in
    let o = owes _ k in
    let l = at_most_one (k.state.reserved f p.index) in
    record {
      es = HandsOver k.task (k.state.geometry.tasks + 1 + p.held) p.held ∷ Deletes k.task f p.index 0 (bit (k.state.reserved f p.index))
          ∷ GivesBack (1 - bit (k.state.reserved f p.index)) ∷ [];
      may = ((k.held, k.spare p.held refl), ((ap bare_of k.stands.0, (omega arith), (omega arith)), ((omega arith), tt)));
      careful = λ e. (tt, (tt, (tt, tt)));
      exact = λ e. refl;
      tables = refl;
      hands = inr (p.held, refl, refl, refl);
      owed = omega arith;
      promised = omega arith;
      marks = λ u d. put_other k.marks k.task bare u d;
      count = omega arith;
      stands = (ap place_of (put_same k.marks k.task bare), (y.0, y.1, y.2, λ e. (omega arith)));
      others = λ u d. (refl, λ v x e. e);
      ranges = k.ranges;
      fits = k.fits;
    }

stays_in_late : (p : Free) (k : In (at.Free p)) → k.careful ≡ true → Booked (call.Truncate (at.Free p)) k (record (pool_of k.state) {
  resv = k.state.resv + 1;
}) (Some (behind_it p (p.evicted - 1)))
stays_in_late p k tight =
    let y = k.stands.1 in
    let z = y.3 tight in
    let o = owes _ k in
    record {
      es = HandsOver k.task (k.state.geometry.tasks + 1 + p.held) p.held ∷ GivesBack 1 ∷ [];
      may = ((k.held, k.spare p.held refl), ((omega arith), tt));
      careful = λ e. (tt, (tt, tt));
      exact = λ e. refl;
      tables = refl;
      hands = inr (p.held, refl, refl, refl);
      owed = omega arith;
      promised = omega arith;
      marks = λ u d. refl;
      count = omega arith;
      stands = (ap place_of k.stands.0, (y.0, y.1, y.2, λ e. (omega arith)));
      others = λ u d. (refl, λ v x e. e);
      ranges = k.ranges;
      fits = k.fits;
    }

repaired_free : (p : Free) (k : In (at.Free p)) (turn : Turn TruncatePhase) (new : Pool) → k.careful ≡ true
    → TakesOutPagedRow (pool_of k.state) p turn new → Steps (at.Free p) k turn new
repaired_free p k turn new tight (inl (inl r)) = went call.Truncate _ k _ _ turn new r (taken_out_paged p k tight)
repaired_free p k turn new tight (inl (inr r)) = went call.Truncate _ k _ _ turn new r (stays_in p k tight)
repaired_free p k turn new tight (inr (inl r)) = went call.Truncate _ k _ _ turn new r (taken_out_late p k tight)
repaired_free p k turn new tight (inr (inr r)) = went call.Truncate _ k _ _ turn new r (stays_in_late p k tight)

truncate_unslot : (p : Unslot) (k : In (at.Unslot p)) (killed grant : Bool) (turn : Turn TruncatePhase) (new : Pool)
    → MayTruncate (pool_of k.state) k.task killed grant (at.Unslot p) turn new → Steps (at.Unslot p) k turn new
truncate_unslot p k killed grant turn new (inl row) =
    let y = k.stands.1 in
    by_test (nat_lt p.truncation.new p.index) row
    (λ _ r. went call.Truncate _ k _ _ turn new r (leaves_slot _ k p.truncation.file p.index _ refl k.stands.0
    (λ m e. (e, (y.0, y.1, (let a = y.2 in omega arith), y.3)))))
    (λ _ r. went call.Truncate _ k _ _ turn new r (leaves_slot _ k p.truncation.file p.index _ refl k.stands.0 (λ m e. (e, y.0))))
truncate_unslot p k killed grant turn new (inr (inl r)) =
    let y = k.stands.1 in
    went call.Truncate _ k _ _ turn new r.3
    (leaves_slot _ k p.truncation.file p.index _ refl k.stands.0 (λ m e. (e, (y.0, y.1, r.2, y.3))))
truncate_unslot p k killed grant turn new (inr (inr r)) =
    went call.Truncate _ k _ _ turn new r (leaves_slot _ k p.truncation.file p.index _ refl k.stands.0 (λ m e. (e, k.stands.1.0)))

-- by repaired rows it goes on to any index, or is over
repaired_size : (p : Size) (k : In (at.Size p)) (turn : Turn TruncatePhase) (new : Pool)
    → NextIndexRow (pool_of k.state) p.truncation
    (record (pool_of k.state) { size = put k.state.size p.truncation.file p.truncation.new }) turn new → Steps (at.Size p) k turn new
repaired_size p k turn new (inl r) =
    went call.Truncate _ k _ _ turn new r.3
    (quiet _ k _ _ refl refl refl (k.stands.0, (k.stands.1, k.stands.2, r.2, λ e. refl)) (sized p k))
repaired_size p k turn new (inr r) = went call.Truncate _ k _ _ turn new r.1 (quiet _ k _ _ refl refl refl k.stands.0 (sized p k))

repaired_unslot : (p : Unslot) (k : In (at.Unslot p)) (turn : Turn TruncatePhase) (new : Pool) → k.careful ≡ true
    → NextIndexRow (pool_of k.state) p.truncation (unslotted (pool_of k.state) p.truncation.file p.index) turn new
    → Steps (at.Unslot p) k turn new
repaired_unslot p k turn new tight row =
    let y = k.stands.1 in
    let none : ◌≡◌ {A = Option ℕ × ℕ × ℕ} (None, 0, 0) (None, p.evicted, 0) = ap (λ (n : ℕ). (None, n, 0)) (sym (y.3 tight)) in
    elim row [
      | inl r ↦ went call.Truncate _ k _ _ turn new r.3 (leaves_slot _ k p.truncation.file p.index _ none k.stands.0
          (λ m e. (e, (y.0, y.1, r.2, λ e. refl))))
      | inr r ↦ went call.Truncate _ k _ _ turn new r.1 (leaves_slot _ k p.truncation.file p.index _ none k.stands.0 (λ m e. e))
    ]

-- the tail leaves the map: what was evicted is owed for so many of it, and where these are fewer the rest is given back or ignored
tail_cut : (p : Tail) (k : In (at.Tail p)) (raised resv : ℕ) → k.careful ≡ false
    → (k.exact ≡ true → p.evicted ≤ raised + count_within (k.state.reserved p.truncation.file) p.truncation.new k.state.geometry.limit)
    → raised + min (count_within (k.state.reserved p.truncation.file) p.truncation.new k.state.geometry.limit) p.evicted ≤ p.evicted
    → resv ≡ k.state.resv + raised
    → Booked (call.Truncate (at.Tail p)) k (record (pool_of k.state) {
      reserved = put k.state.reserved p.truncation.file (cut_tail (k.state.reserved p.truncation.file) p.truncation.new);
      resv = resv;
    }) (Some (call.Truncate (at.Settle (record {
      truncation = p.truncation;
      excess = count_within (k.state.reserved p.truncation.file) p.truncation.new k.state.geometry.limit - p.evicted;
      evicted = p.evicted;
    }))))
tail_cut p k raised resv wild all low is =
    let n = count_within (k.state.reserved p.truncation.file) p.truncation.new k.state.geometry.limit in
    let o = owes _ k in
    record {
      es = CutsTail p.truncation.file p.truncation.new (n - p.evicted) (min n p.evicted) ∷ GivesBack raised
          ∷ Ignores (p.evicted - n - raised) ∷ [];
      may = ((k.stands.1, (omega arith), (omega arith)), ((omega arith), ((omega arith), tt)));
      careful = λ e. clash k.careful e wild;
      exact = λ e. (let z = all e in omega arith);
      tables = refl;
      hands = inl (same_hands _ k (Some (call.Truncate (at.Tail p))) refl);
      owed = omega arith;
      promised = omega arith;
      marks = λ u d. refl;
      count = omega arith;
      stands = k.stands.0;
      others = λ u d. (refl, λ v x e. e);
      ranges = k.ranges;
      fits = k.fits;
    }

truncate_tail : (p : Tail) (k : In (at.Tail p)) (killed grant : Bool) (turn : Turn TruncatePhase) (new : Pool) → k.careful ≡ false
    → k.exact ≡ false → MayTruncate (pool_of k.state) k.task killed grant (at.Tail p) turn new → Steps (at.Tail p) k turn new
truncate_tail p k killed grant turn new wild loose (inl r) =
    went call.Truncate _ k _ _ turn new r
    (tail_cut p k 0 k.state.resv wild (λ e. clash k.exact e loose) (omega arith) (omega arith))
truncate_tail p k killed grant turn new wild loose (inr (n, low, r)) =
    went call.Truncate _ k _ _ turn new r
    (tail_cut p k n (k.state.resv + n) wild (λ e. clash k.exact e loose) (omega arith) refl)

-- by accounted rows all of the difference is given back
accounted_tail : (p : Tail) (k : In (at.Tail p)) (turn : Turn TruncatePhase) (new : Pool) → k.careful ≡ false
    → AccountedTailRow (pool_of k.state) p turn new → Steps (at.Tail p) k turn new
accounted_tail p k turn new wild r =
    let n = count_within (k.state.reserved p.truncation.file) p.truncation.new k.state.geometry.limit in
    went call.Truncate _ k _ _ turn new r
    (tail_cut p k (p.evicted - n) (k.state.resv + (p.evicted - n)) wild (λ e. (omega arith)) (omega arith) refl)

truncate_settle : (p : Settle) (k : In (at.Settle p)) (killed grant : Bool) (turn : Turn TruncatePhase) (new : Pool)
    → MayTruncate (pool_of k.state) k.task killed grant (at.Settle p) turn new → Steps (at.Settle p) k turn new
truncate_settle p k killed grant turn new (low, r) = let h = has_promised _ k in went call.Truncate _ k _ _ turn new r (record {
  es = Settles p.excess ∷ [];
  may = (h, tt);
  careful = λ e. (tt, tt);
  exact = λ e. refl;
  tables = refl;
  hands = inl (same_hands _ k (Some (call.Truncate (at.Settle p))) refl);
  owed = refl;
  promised = omega arith;
  marks = λ u d. refl;
  count = omega arith;
  stands = k.stands;
  others = λ u d. (refl, λ v x e. e);
  ranges = k.ranges;
  fits = k.fits;
})

truncate_leave : (p : Leave) (k : In (at.Leave p)) (killed grant : Bool) (turn : Turn TruncatePhase) (new : Pool)
    → TruncateRow (pool_of k.state) k.task killed grant (at.Leave p) turn new → Steps (at.Leave p) k turn new
truncate_leave p k killed grant turn new r =
    over call.Truncate _ k answer.Done _ turn new r (quiet _ k _ None refl refl refl k.stands k.fits)

-- by Linux's rows
pub truncate_steps : (phase : TruncatePhase) (k : In phase) (killed grant : Bool) (turn : Turn TruncatePhase) (new : Pool)
    → k.careful ≡ false → k.exact ≡ false → MayTruncate (pool_of k.state) k.task killed grant phase turn new → Steps phase k turn new
truncate_steps (at.Start p) k killed grant turn new wild loose r = truncate_start p k killed grant turn new r
truncate_steps (at.Size p) k killed grant turn new wild loose r = truncate_size p k killed grant turn new r
truncate_steps (at.Want p) k killed grant turn new wild loose r = truncate_want p k killed grant turn new r
truncate_steps (at.Locked p) k killed grant turn new wild loose r = truncate_locked p k killed grant turn new r
truncate_steps (at.Unmap p) k killed grant turn new wild loose r = truncate_unmap p k killed grant turn new r
truncate_steps (at.Evict p) k killed grant turn new wild loose r = truncate_evict p k killed grant turn new r
truncate_steps (at.Free p) k killed grant turn new wild loose r = truncate_free p k killed grant turn new wild r
truncate_steps (at.Unslot p) k killed grant turn new wild loose r = truncate_unslot p k killed grant turn new r
truncate_steps (at.Tail p) k killed grant turn new wild loose r = truncate_tail p k killed grant turn new wild loose r
truncate_steps (at.Settle p) k killed grant turn new wild loose r = truncate_settle p k killed grant turn new r
truncate_steps (at.Leave p) k killed grant turn new wild loose r = truncate_leave p k killed grant turn new r

-- by accounted ones
pub accounted_truncate_steps : (phase : TruncatePhase) (k : In phase) (killed grant : Bool) (turn : Turn TruncatePhase) (new : Pool)
    → k.careful ≡ false → AccountedTruncate (pool_of k.state) k.task killed grant phase turn new → Steps phase k turn new
accounted_truncate_steps (at.Start p) k killed grant turn new wild r = truncate_start p k killed grant turn new r
accounted_truncate_steps (at.Size p) k killed grant turn new wild r = truncate_size p k killed grant turn new r
accounted_truncate_steps (at.Want p) k killed grant turn new wild r = truncate_want p k killed grant turn new r
accounted_truncate_steps (at.Locked p) k killed grant turn new wild r = truncate_locked p k killed grant turn new r
accounted_truncate_steps (at.Unmap p) k killed grant turn new wild r = truncate_unmap p k killed grant turn new r
accounted_truncate_steps (at.Evict p) k killed grant turn new wild r = truncate_evict p k killed grant turn new r
accounted_truncate_steps (at.Free p) k killed grant turn new wild r = truncate_free p k killed grant turn new wild r
accounted_truncate_steps (at.Unslot p) k killed grant turn new wild r = truncate_unslot p k killed grant turn new r
accounted_truncate_steps (at.Tail p) k killed grant turn new wild r = accounted_tail p k turn new wild r
accounted_truncate_steps (at.Settle p) k killed grant turn new wild r = truncate_settle p k killed grant turn new r
accounted_truncate_steps (at.Leave p) k killed grant turn new wild r = truncate_leave p k killed grant turn new r

-- and by repaired ones
pub repaired_truncate_steps : (phase : TruncatePhase) (k : In phase) (killed grant : Bool) (turn : Turn TruncatePhase) (new : Pool)
    → k.careful ≡ true → RepairedTruncate (pool_of k.state) k.task killed grant phase turn new → Steps phase k turn new
repaired_truncate_steps (at.Start p) k killed grant turn new tight r = truncate_start p k killed grant turn new r
repaired_truncate_steps (at.Size p) k killed grant turn new tight r = repaired_size p k turn new r
repaired_truncate_steps (at.Want p) k killed grant turn new tight r = slot_wanted p k killed grant turn new r
repaired_truncate_steps (at.Locked p) k killed grant turn new tight r = repaired_locked p k turn new r
repaired_truncate_steps (at.Unmap p) k killed grant turn new tight r = truncate_unmap p k killed grant turn new r
repaired_truncate_steps (at.Evict p) k killed grant turn new tight r = truncate_evict p k killed grant turn new r
repaired_truncate_steps (at.Free p) k killed grant turn new tight r = repaired_free p k turn new tight r
repaired_truncate_steps (at.Unslot p) k killed grant turn new tight r = repaired_unslot p k turn new tight r
repaired_truncate_steps (at.Tail p) k killed grant turn new tight r = absurd r
repaired_truncate_steps (at.Settle p) k killed grant turn new tight r = absurd r
repaired_truncate_steps (at.Leave p) k killed grant turn new tight r = truncate_leave p k killed grant turn new r
