-- Each step of a touch as entries.
use Rattle.std.proofs.Common.{◌≡◌, ◌≢◌, ℕ, ◌+◌, refl, ap, sym, ◌∙◌, arith, inl, inr, ◌⊎◌}
use Rattle.std.specs.Prelude.{◌==◌, ◌&&◌, Bool, false, not, nat_le, is_some, Option, Some, None, [], ◌∷◌}
use Rattle.hp_base.specs.Mappings.{find}
use Rattle.hp_base.specs.Numbers.{put, put2}
use Rattle.hp_base.specs.declared.answer.Answer.{Answer}
use Rattle.hp_base.specs.declared.answer.Answer.TheVariants as answer
use Rattle.hp_base.proofs.Puts.{put_other}
use Rattle.hp_frames.specs.declared.frame.FrameState.TheVariants as frame
use Rattle.hp_machine.specs.State.{Pool, pool_of}
use Rattle.hp_machine.specs.Headline.{all_behind, all_ahead}
use Rattle.hp_machine.specs.Parts.{placed, answer_of, frame_after}
use Rattle.hp_machine.specs.TouchRows.{TouchRestoreRow}
use Rattle.hp_machine.specs.declared.touch.Access.{Access}
use Rattle.hp_machine.specs.declared.touch.Access.TheVariants.{Load, Store}
use Rattle.hp_machine.specs.declared.touch.Locked.{Locked}
use Rattle.hp_machine.specs.declared.touch.Leave.{Leave}
use Rattle.hp_machine.specs.declared.touch.Settle.{Settle}
use Rattle.hp_machine.specs.declared.touch.Abort.{Abort}
use Rattle.hp_machine.specs.declared.touch.Changed.{Changed}
use Rattle.hp_machine.specs.declared.touch.Missing.{Missing}
use Rattle.hp_machine.specs.declared.touch.Want.{Want}
use Rattle.hp_machine.specs.declared.touch.Look.{Look}
use Rattle.hp_machine.specs.declared.touch.Committed.{Committed}
use Rattle.hp_machine.specs.declared.touch.Restore.{Restore}
use Rattle.hp_machine.specs.declared.touch.Taken.{Taken}
use Rattle.hp_machine.specs.declared.touch.Found.{Found}
use Rattle.hp_machine.specs.declared.touch.TouchPhase.{TouchPhase}
use Rattle.hp_machine.specs.declared.touch.TouchPhase.TheVariants as at
use Rattle.hp_machine.specs.declared.call.Call.{Call}
use Rattle.hp_machine.specs.declared.call.Call.TheVariants as call
use Rattle.hp_machine.specs.declared.call.Turn.{Turn}
use Rattle.hp_machine.specs.Events.{left}
use Rattle.hp_laws.proofs.Shared.{by_test, by_option, one_change}
use Rattle.hp_laws.proofs.Tables.{find_within}
use Rattle.hp_laws.proofs.TouchDid.{no_page}
use Rattle.hp_linux.specs.Rows.{BacksOutRow}
use Rattle.hp_accounts.specs.Books.{Mark, At, place_of}
use Rattle.hp_accounts.specs.Entries.{Writes, Translates}
use Rattle.hp_linux_laws.specs.MayRows.{MayTouch, EntersAgainRow}
use Rattle.hp_linux_laws.specs.RepairedRows.{RepairedTouch}
use Rattle.hp_linux_laws.proofs.Stepping.{From, Booked, same_hands, seen, quiet, went, over}
use Rattle.hp_linux_laws.proofs.Standing.{Stands}
use Rattle.hp_linux_laws.proofs.Making.{KnownAt, Committing, wants_slot, leaves_slot, looks, takes, commit_ignores}
use Rattle.hp_linux_laws.proofs.Making.{commit_accounts, settles_one, places, restores, backs_out, enters_again}

-- the call in that phase, and the state behind its turn
abbrev pub In : TouchPhase → Type 0
In p = From (call.Touch p)

abbrev pub Steps : (p : TouchPhase) → In p → Turn TouchPhase → Pool → Type 0
Steps p k turn new = Booked (call.Touch p) k new (left call.Touch turn)

-- a page's word is read or written
accessed : (c : Call) (k : From c) (x word : ℕ) (access : Access) (next : Option Call) → k.state.frame x ≡ frame.Placed word
    → seen next ≡ seen (Some c) → KnownAt c k (k.marks k.task) next
    → Booked c k (record (pool_of k.state) { frame = frame_after access k.state.frame x }) next
accessed c k x word Load next placed is known = quiet c k (pool_of k.state) next refl is refl known k.fits
accessed c k x word (Store v) next placed is known = record {
  es = Writes x word v ∷ [];
  may = (placed, tt);
  careful = λ e. (tt, tt);
  exact = λ e. refl;
  tables = refl;
  hands = inl (same_hands c k next (ap (λ p. p.0) is));
  owed = ap (λ (n : ℕ). all_behind k.state + n) (sym (ap (λ p. p.1) is));
  promised = ap (λ (n : ℕ). all_ahead k.state + n) (sym (ap (λ p. p.2) is));
  marks = λ u d. refl;
  count = omega arith;
  stands = known;
  others = λ u d. (refl, λ v x e. e);
  ranges = k.ranges;
  fits = k.fits;
}

-- a page is translated, and its word read or written
translated : (c : Call) (k : From c) (f i v x word : ℕ) (access : Access) (next : Option Call) → k.state.frame x ≡ frame.Placed word
    → k.marks k.task ≡ At f i → find (k.state.mappings k.task) v ≡ Some (f, i) → k.state.pages f i ≡ Some x
    → seen next ≡ seen (Some c)
    → Stands k.state.geometry k.careful (k.state.mappings k.task) (put2 k.state.entries k.task v (Some x) k.task) (k.marks k.task) next
    → Booked c k (record (pool_of k.state) {
      entries = put2 k.state.entries k.task v (Some x);
      frame = frame_after access k.state.frame x;
    }) next
translated c k f i v x word access next placed at found page is known = here access
  where
    others : (u : ℕ) → u ≢ k.task → (w y : ℕ) → put2 k.state.entries k.task v (Some x) u w ≡ Some y → k.state.entries u w ≡ Some y
    others u d w y e =
        ap (λ (m : ℕ → Option ℕ). m w) (sym (put_other k.state.entries k.task (put (k.state.entries k.task) v (Some x)) u d)) ∙ e

    here : (access : Access) → Booked c k (record (pool_of k.state) {
      entries = put2 k.state.entries k.task v (Some x);
      frame = frame_after access k.state.frame x;
    }) next
    here Load = record {
      es = Translates k.task f i k.task v x ∷ [];
      may = ((at, k.live.0, k.live.1, found, page), tt);
      careful = λ e. (tt, tt);
      exact = λ e. refl;
      tables = refl;
      hands = inl (same_hands c k next (ap (λ p. p.0) is));
      owed = ap (λ (n : ℕ). all_behind k.state + n) (sym (ap (λ p. p.1) is));
      promised = ap (λ (n : ℕ). all_ahead k.state + n) (sym (ap (λ p. p.2) is));
      marks = λ u d. refl;
      count = omega arith;
      stands = known;
      others = λ u d. (refl, others u d);
      ranges = k.ranges;
      fits = k.fits;
    }
    here (Store new) = record {
      es = Translates k.task f i k.task v x ∷ Writes x word new ∷ [];
      may = ((at, k.live.0, k.live.1, found, page), (placed, tt));
      careful = λ e. (tt, (tt, tt));
      exact = λ e. refl;
      tables = refl;
      hands = inl (same_hands c k next (ap (λ p. p.0) is));
      owed = ap (λ (n : ℕ). all_behind k.state + n) (sym (ap (λ p. p.1) is));
      promised = ap (λ (n : ℕ). all_ahead k.state + n) (sym (ap (λ p. p.2) is));
      marks = λ u d. refl;
      count = omega arith;
      stands = known;
      others = λ u d. (refl, others u d);
      ranges = k.ranges;
      fits = k.fits;
    }

-- the place of a mark at an index
at_place : {m : Mark} {f i : ℕ} → m ≡ At f i → place_of m ≡ Some (f, i)
at_place e = ap place_of e

touch_look : (p : Look) (k : In (at.Look p)) (killed grant : Bool) (turn : Turn TouchPhase) (new : Pool)
    → MayTouch (pool_of k.state) k.task killed grant (at.Look p) turn new → Steps (at.Look p) k turn new
touch_look p k killed grant turn new row =
    by_option (find (k.state.mappings k.task) p.vpn) row
    (λ none r. over call.Touch _ k answer.Segv _ turn new r (quiet _ k _ None refl refl refl k.stands k.fits))
    (λ place found r. by_option (k.state.entries k.task p.vpn) r
    (λ none r. let w = find_within k.state.geometry (k.state.mappings k.task) p.vpn place k.ranges found in
    went call.Touch _ k _ _ turn new r (quiet _ k _ _ refl refl refl (k.stands, (found, w.0, w.1)) k.fits))
    (λ x entry r. over call.Touch _ k _ _ turn new r.2 (accessed _ k x r.0 p.access None r.1 refl k.stands)))

touch_want : (p : Want) (k : In (at.Want p)) (killed grant : Bool) (turn : Turn TouchPhase) (new : Pool)
    → MayTouch (pool_of k.state) k.task killed grant (at.Want p) turn new → Steps (at.Want p) k turn new
touch_want p k killed grant turn new row =
    by_test killed row
    (λ _ r. over call.Touch _ k answer.Killed _ turn new r (quiet _ k _ None refl refl refl k.stands.0 k.fits))
    (λ _ r. wants_slot call.Touch _ k p.touch.file p.touch.index (at.Want p) (at.Locked (record { touch = p.touch })) turn new r refl refl
    k.stands.1.1 k.stands.1.2 k.stands.0 (λ m e. (e, k.stands.1)))

-- what a look under the slot leads to
found_page : (p : Locked) (k : In (at.Locked p))
    → Booked (call.Touch (at.Locked p)) k (pool_of k.state) (Some (call.Touch (at.Found (record { touch = p.touch }))))
found_page p k = quiet _ k _ _ refl refl refl k.stands k.fits

found_none : (p : Locked) (k : In (at.Locked p)) → is_some (k.state.pages p.touch.file p.touch.index) ≡ false
    → Booked (call.Touch (at.Locked p)) k (pool_of k.state) (Some (call.Touch (at.Missing (record { touch = p.touch }))))
found_none p k none = looks _ k p.touch.file p.touch.index _ refl (at_place k.stands.0) (no_page _ none) (λ m e. (e, k.stands.1))

beyond : (p : Locked) (k : In (at.Locked p))
    → Booked (call.Touch (at.Locked p)) k (pool_of k.state)
    (Some (call.Touch (at.Leave (record { touch = p.touch; answer = answer.Beyond }))))
beyond p k = quiet _ k _ _ refl refl refl (at_place k.stands.0) k.fits

touch_locked : (p : Locked) (k : In (at.Locked p)) (killed grant : Bool) (turn : Turn TouchPhase) (new : Pool)
    → MayTouch (pool_of k.state) k.task killed grant (at.Locked p) turn new → Steps (at.Locked p) k turn new
touch_locked p k killed grant turn new (inl row) =
    by_test (nat_le (k.state.size p.touch.file) p.touch.index) row
    (λ _ r. went call.Touch _ k _ _ turn new r (beyond p k))
    (λ _ r. by_test (is_some (k.state.pages p.touch.file p.touch.index)) r
    (λ _ r. went call.Touch _ k _ _ turn new r (found_page p k))
    (λ none r. went call.Touch _ k _ _ turn new r (found_none p k none)))
touch_locked p k killed grant turn new (inr row) =
    by_test (is_some (k.state.pages p.touch.file p.touch.index)) row
    (λ _ r. went call.Touch _ k _ _ turn new r (found_page p k))
    (λ none r. by_test (nat_le (k.state.size p.touch.file) p.touch.index) r
    (λ _ r. went call.Touch _ k _ _ turn new r (beyond p k))
    (λ _ r. went call.Touch _ k _ _ turn new r (found_none p k none)))

touch_missing : (p : Missing) (k : In (at.Missing p)) (killed grant : Bool) (turn : Turn TouchPhase) (new : Pool)
    → MayTouch (pool_of k.state) k.task killed grant (at.Missing p) turn new → Steps (at.Missing p) k turn new
touch_missing p k killed grant turn new (inl row) =
    by_test ((k.state.spare p.touch.file == k.state.pending p.touch.file) && not grant) row
    (λ _ r. went call.Touch _ k _ _ turn new r (quiet _ k _ _ refl refl refl (ap place_of k.stands.0) k.fits))
    (λ _ r. went call.Touch _ k _ _ turn new r
    (quiet _ k _ _ refl refl refl (k.stands.0, k.stands.1, (one_change (k.state.reserved p.touch.file) p.touch.index).0) k.fits))
touch_missing p k killed grant turn new (inr r) =
    went call.Touch _ k _ _ turn new r (quiet _ k _ _ refl refl refl (ap place_of k.stands.0) k.fits)

touch_changed : (p : Changed) (k : In (at.Changed p)) (killed grant : Bool) (turn : Turn TouchPhase) (new : Pool)
    → MayTouch (pool_of k.state) k.task killed grant (at.Changed p) turn new → Steps (at.Changed p) k turn new
touch_changed p k killed grant turn new row =
    let aborts : (a : Answer) → Booked (call.Touch (at.Changed p)) k (pool_of k.state)
    (Some (call.Touch (at.Abort (record { touch = p.touch; pending = p.pending; answer = a })))) =
    λ a. quiet _ k _ _ refl refl refl (k.stands.0, k.stands.1) k.fits in
    elim row [
      | inl r ↦ by_test killed r
          (λ _ r. went call.Touch _ k _ _ turn new r (aborts answer.Killed))
          (λ _ r. takes call.Touch _ k p.pending.missing
          (λ a. at.Abort (record { touch = p.touch; pending = p.pending; answer = a }))
          (λ x. at.Taken (record { touch = p.touch; pending = p.pending; held = x })) turn new r aborts refl (λ x. refl) (λ x. k.stands))
      | inr r ↦ went call.Touch _ k _ _ turn new r (aborts answer.NoFrame)
    ]

touch_abort : (p : Abort) (k : In (at.Abort p)) (killed grant : Bool) (turn : Turn TouchPhase) (new : Pool)
    → MayTouch (pool_of k.state) k.task killed grant (at.Abort p) turn new → Steps (at.Abort p) k turn new
touch_abort p k killed grant turn new r =
    went call.Touch _ k _ _ turn new r (quiet _ k _ _ refl refl refl (ap place_of k.stands.0) k.fits)

-- what is known at the commit
settling : (p : Taken) (k : In (at.Taken p))
    → Committing (call.Touch (at.Taken p)) k p.touch.file p.touch.index p.pending
    (call.Touch (at.Settle (record { touch = p.touch; held = p.held }))) 0
settling p k = record {
  file = k.stands.1.1;
  index = k.stands.1.2;
  one = k.stands.2;
  bare = k.stands.0;
  held = refl;
  owes = refl;
  owed = refl;
  promised = (refl, refl);
  known = λ m e. (e, k.stands.1);
}

entering : (p : Taken) (k : In (at.Taken p))
    → Committing (call.Touch (at.Taken p)) k p.touch.file p.touch.index p.pending
    (call.Touch (at.Committed (record { touch = p.touch; held = p.held }))) 1
entering p k = record {
  file = k.stands.1.1;
  index = k.stands.1.2;
  one = k.stands.2;
  bare = k.stands.0;
  held = refl;
  owes = refl;
  owed = refl;
  promised = (refl, refl);
  known = λ m e. (e, k.stands.1);
}

touch_settle : (p : Settle) (k : In (at.Settle p)) (killed grant : Bool) (turn : Turn TouchPhase) (new : Pool)
    → MayTouch (pool_of k.state) k.task killed grant (at.Settle p) turn new → Steps (at.Settle p) k turn new
touch_settle p k killed grant turn new r =
    settles_one call.Touch _ k (at.Committed (record { touch = p.touch; held = p.held })) turn new r refl (refl, refl, refl) k.stands

-- a page is placed, or isn't
place_page : (p : Committed) (k : In (at.Committed p)) → Booked (call.Touch (at.Committed p)) k
    (placed (pool_of k.state) p.touch.file p.touch.index p.held) (Some (call.Touch (at.Found (record { touch = p.touch }))))
place_page p k = places _ k p.touch.file p.touch.index p.held _ refl refl k.stands.0 k.stands.1.2 (λ m e. (e, k.stands.1))

gives_up : (p : Committed) (k : In (at.Committed p)) (a : Answer) → Booked (call.Touch (at.Committed p)) k (pool_of k.state)
    (Some (call.Touch (at.Restore (record { touch = p.touch; held = p.held; answer = a }))))
gives_up p k a = quiet _ k _ _ refl refl refl k.stands k.fits

touch_committed : (p : Committed) (k : In (at.Committed p)) (killed grant : Bool) (turn : Turn TouchPhase) (new : Pool)
    → MayTouch (pool_of k.state) k.task killed grant (at.Committed p) turn new → Steps (at.Committed p) k turn new
touch_committed p k killed grant turn new (inl row) =
    by_test (nat_le (k.state.size p.touch.file) p.touch.index) row
    (λ _ r. went call.Touch _ k _ _ turn new r (gives_up p k answer.Beyond))
    (λ _ r. by_test grant r
    (λ _ r. went call.Touch _ k _ _ turn new r (place_page p k))
    (λ _ r. went call.Touch _ k _ _ turn new r (gives_up p k answer.NoMemory)))
touch_committed p k killed grant turn new (inr row) =
    by_test grant row
    (λ _ r. went call.Touch _ k _ _ turn new r (place_page p k))
    (λ _ r. went call.Touch _ k _ _ turn new r (gives_up p k answer.NoMemory))

touch_restored : (p : Restore) (k : In (at.Restore p)) (turn : Turn TouchPhase) (new : Pool)
    → TouchRestoreRow (pool_of k.state) p turn new → Steps (at.Restore p) k turn new
touch_restored p k turn new r =
    went call.Touch _ k _ _ turn new r (restores _ k p.touch.file p.touch.index p.held _ refl refl (ap place_of k.stands.0))

touch_restore : (p : Restore) (k : In (at.Restore p)) (turn : Turn TouchPhase) (new : Pool) → k.exact ≡ false
    → BacksOutRow (pool_of k.state) p turn new ⊎ EntersAgainRow (pool_of k.state) p turn new → Steps (at.Restore p) k turn new
touch_restore p k turn new loose (inl (inl r)) = touch_restored p k turn new r
touch_restore p k turn new loose (inl (inr r)) =
    went call.Touch _ k _ _ turn new r
    (backs_out _ k p.touch.file p.touch.index p.held _ _ loose refl refl k.stands.0 (λ m e. ap place_of e))
touch_restore p k turn new loose (inr r) =
    went call.Touch _ k _ _ turn new r
    (enters_again _ k p.touch.file p.touch.index p.held _ loose k.stands.1.1 k.stands.1.2 refl refl (ap place_of k.stands.0))

-- a page is found, and translated, or isn't
translates : (p : Found) (k : In (at.Found p)) (x word : ℕ) → k.state.pages p.touch.file p.touch.index ≡ Some x
    → k.state.frame x ≡ frame.Placed word → Booked (call.Touch (at.Found p)) k (record (pool_of k.state) {
      entries = put2 k.state.entries k.task p.touch.vpn (Some x);
      frame = frame_after p.touch.access k.state.frame x;
    }) (Some (call.Touch (at.Leave (record { touch = p.touch; answer = answer_of p.touch.access word }))))
translates p k x word page is =
    translated _ k p.touch.file p.touch.index p.touch.vpn x word p.touch.access _ is k.stands.0 k.stands.1.0 page refl (at_place k.stands.0)

leaves : (p : Found) (k : In (at.Found p)) (a : Answer)
    → Booked (call.Touch (at.Found p)) k (pool_of k.state) (Some (call.Touch (at.Leave (record { touch = p.touch; answer = a }))))
leaves p k a = quiet _ k _ _ refl refl refl (at_place k.stands.0) k.fits

touch_found : (p : Found) (k : In (at.Found p)) (killed grant : Bool) (turn : Turn TouchPhase) (new : Pool)
    → MayTouch (pool_of k.state) k.task killed grant (at.Found p) turn new → Steps (at.Found p) k turn new
touch_found p k killed grant turn new (inl row) =
    by_test (nat_le (k.state.size p.touch.file) p.touch.index) row
    (λ _ r. went call.Touch _ k _ _ turn new r (leaves p k answer.Beyond))
    (λ _ r. by_test grant r
    (λ _ r. went call.Touch _ k _ _ turn new r.4 (translates p k r.0 r.1 r.2 r.3))
    (λ _ r. went call.Touch _ k _ _ turn new r (leaves p k answer.NoMemory)))
touch_found p k killed grant turn new (inr row) =
    by_test grant row
    (λ _ r. went call.Touch _ k _ _ turn new r.4 (translates p k r.0 r.1 r.2 r.3))
    (λ _ r. went call.Touch _ k _ _ turn new r (leaves p k answer.NoMemory))

touch_leave : (p : Leave) (k : In (at.Leave p)) (killed grant : Bool) (turn : Turn TouchPhase) (new : Pool)
    → MayTouch (pool_of k.state) k.task killed grant (at.Leave p) turn new → Steps (at.Leave p) k turn new
touch_leave p k killed grant turn new r =
    over call.Touch _ k p.answer _ turn new r (leaves_slot _ k p.touch.file p.touch.index None refl k.stands (λ m e. e))

-- by Linux's rows
pub touch_steps : (phase : TouchPhase) (k : In phase) (killed grant : Bool) (turn : Turn TouchPhase) (new : Pool) → k.exact ≡ false
    → MayTouch (pool_of k.state) k.task killed grant phase turn new → Steps phase k turn new
touch_steps (at.Look p) k killed grant turn new loose r = touch_look p k killed grant turn new r
touch_steps (at.Want p) k killed grant turn new loose r = touch_want p k killed grant turn new r
touch_steps (at.Locked p) k killed grant turn new loose r = touch_locked p k killed grant turn new r
touch_steps (at.Missing p) k killed grant turn new loose r = touch_missing p k killed grant turn new r
touch_steps (at.Changed p) k killed grant turn new loose r = touch_changed p k killed grant turn new r
touch_steps (at.Abort p) k killed grant turn new loose r = touch_abort p k killed grant turn new r
touch_steps (at.Taken p) k killed grant turn new loose r =
    commit_ignores call.Touch _ k p.touch.file p.touch.index p.pending _ _ turn new loose r (settling p k) (entering p k)
touch_steps (at.Settle p) k killed grant turn new loose r = touch_settle p k killed grant turn new r
touch_steps (at.Committed p) k killed grant turn new loose r = touch_committed p k killed grant turn new r
touch_steps (at.Restore p) k killed grant turn new loose r = touch_restore p k turn new loose r
touch_steps (at.Found p) k killed grant turn new loose r = touch_found p k killed grant turn new r
touch_steps (at.Leave p) k killed grant turn new loose r = touch_leave p k killed grant turn new r

-- and by repaired ones
pub repaired_touch_steps : (phase : TouchPhase) (k : In phase) (killed grant : Bool) (turn : Turn TouchPhase) (new : Pool)
    → RepairedTouch (pool_of k.state) k.task killed grant phase turn new → Steps phase k turn new
repaired_touch_steps (at.Look p) k killed grant turn new r = touch_look p k killed grant turn new r
repaired_touch_steps (at.Want p) k killed grant turn new r = touch_want p k killed grant turn new r
repaired_touch_steps (at.Locked p) k killed grant turn new r = touch_locked p k killed grant turn new r
repaired_touch_steps (at.Missing p) k killed grant turn new r = touch_missing p k killed grant turn new r
repaired_touch_steps (at.Changed p) k killed grant turn new r = touch_changed p k killed grant turn new r
repaired_touch_steps (at.Abort p) k killed grant turn new r = touch_abort p k killed grant turn new r
repaired_touch_steps (at.Taken p) k killed grant turn new r =
    commit_accounts call.Touch _ k p.touch.file p.touch.index p.pending _ _ turn new r (settling p k) (entering p k)
repaired_touch_steps (at.Settle p) k killed grant turn new r = touch_settle p k killed grant turn new r
repaired_touch_steps (at.Committed p) k killed grant turn new r = touch_committed p k killed grant turn new r
repaired_touch_steps (at.Restore p) k killed grant turn new r = touch_restored p k turn new r
repaired_touch_steps (at.Found p) k killed grant turn new r = touch_found p k killed grant turn new r
repaired_touch_steps (at.Leave p) k killed grant turn new r = touch_leave p k killed grant turn new r
