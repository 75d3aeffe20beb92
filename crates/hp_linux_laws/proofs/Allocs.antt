-- Each step of an allocation as entries.
use Rattle.std.proofs.Common.{◌≡◌, ℕ, ◌+◌, ◌<◌, ◌≤◌, refl, ap, arith, inl, inr, ◌⊎◌}
use Rattle.std.specs.Prelude.{◌==◌, ◌&&◌, Bool, false, not, nat_lt, nat_le, max, is_some, Some, None}
use Rattle.std.proofs.lemmas.Bool.Decides.{nat_tests}
use Rattle.hp_base.specs.Numbers.{put}
use Rattle.hp_base.specs.declared.answer.Answer.{Answer}
use Rattle.hp_base.specs.declared.answer.Answer.TheVariants as answer
use Rattle.hp_base.proofs.Puts.{put_tells}
use Rattle.hp_machine.specs.State.{Pool, pool_of}
use Rattle.hp_machine.specs.AllocRows.{AllocRestoreRow}
use Rattle.hp_machine.specs.Events.{left}
use Rattle.hp_machine.specs.Parts.{is_bad_range}
use Rattle.hp_machine.specs.declared.alloc.Start.{Start}
use Rattle.hp_machine.specs.declared.alloc.Head.{Head}
use Rattle.hp_machine.specs.declared.alloc.Want.{Want}
use Rattle.hp_machine.specs.declared.alloc.Locked.{Locked}
use Rattle.hp_machine.specs.declared.alloc.Missing.{Missing}
use Rattle.hp_machine.specs.declared.alloc.Changed.{Changed}
use Rattle.hp_machine.specs.declared.alloc.Abort.{Abort}
use Rattle.hp_machine.specs.declared.alloc.Taken.{Taken}
use Rattle.hp_machine.specs.declared.alloc.Settle.{Settle}
use Rattle.hp_machine.specs.declared.alloc.Committed.{Committed}
use Rattle.hp_machine.specs.declared.alloc.Restore.{Restore}
use Rattle.hp_machine.specs.declared.alloc.Unslot.{Unslot}
use Rattle.hp_machine.specs.declared.alloc.Extend.{Extend}
use Rattle.hp_machine.specs.declared.alloc.Leave.{Leave}
use Rattle.hp_machine.specs.declared.alloc.AllocPhase.{AllocPhase}
use Rattle.hp_machine.specs.declared.alloc.AllocPhase.TheVariants as at
use Rattle.hp_machine.specs.declared.call.Call.TheVariants as call
use Rattle.hp_machine.specs.declared.call.Turn.{Turn}
use Rattle.hp_laws.proofs.Deciding.{lt}
use Rattle.hp_laws.proofs.Shared.{by_test, by_option, good_range, one_change}
use Rattle.hp_laws.proofs.TouchDid.{no_page}
use Rattle.hp_accounts.specs.Books.{place_of}
use Rattle.hp_linux_laws.specs.MayRows.{MayAlloc, AllocBacksOutRow, AllocEntersAgainRow}
use Rattle.hp_linux_laws.specs.RepairedRows.{RepairedAlloc}
use Rattle.hp_linux_laws.proofs.Standing.{below_limit}
use Rattle.hp_linux_laws.proofs.Stepping.{From, Booked, quiet, went, over, waits}
use Rattle.hp_linux_laws.proofs.Making.{Committing, wants_slot, leaves_slot, looks, takes, commit_ignores, commit_accounts}
use Rattle.hp_linux_laws.proofs.Making.{settles_one, places, restores, backs_out, enters_again}

abbrev pub In : AllocPhase → Type 0
In p = From (call.Alloc p)

abbrev pub Steps : (p : AllocPhase) → In p → Turn AllocPhase → Pool → Type 0
Steps p k turn new = Booked (call.Alloc p) k new (left call.Alloc turn)

alloc_start : (p : Start) (k : In (at.Start p)) (killed grant : Bool) (turn : Turn AllocPhase) (new : Pool)
    → MayAlloc (pool_of k.state) k.task killed grant (at.Start p) turn new → Steps (at.Start p) k turn new
alloc_start p k killed grant turn new row =
    let ends : (a : Answer)
    → Booked (call.Alloc (at.Start p)) k (pool_of k.state) None = λ a. quiet _ k _ None refl refl refl k.stands k.fits in
    by_test (nat_le k.state.geometry.files p.allocation.file) row
    (λ _ r. over call.Alloc _ k _ _ turn new r (ends answer.BadFile))
    (λ file r. by_test (is_bad_range (pool_of k.state) p.allocation.from p.allocation.len) r
    (λ _ r. over call.Alloc _ k _ _ turn new r (ends answer.BadRange))
    (λ good r. by_test killed r
    (λ _ r. over call.Alloc _ k _ _ turn new r (ends answer.Interrupted))
    (λ _ r. by_option (k.state.locks p.allocation.file) r
    (λ _ r. let z = good_range k.state p.allocation.from p.allocation.len good in
    went call.Alloc _ k _ _ turn new r (quiet _ k _ _ refl refl refl
    (k.stands, (below k.state.geometry.files p.allocation.file file, (let a = z.0 in omega arith), z.1)) k.fits))
    (λ u _ r. waits call.Alloc _ k (at.Start p) u turn new r (quiet _ k _ _ refl refl refl k.stands k.fits)))))
  where
    below : (n f : ℕ) → nat_le n f ≡ false → f < n
    below n f e = grind (arith, nat_tests)

alloc_head : (p : Head) (k : In (at.Head p)) (killed grant : Bool) (turn : Turn AllocPhase) (new : Pool)
    → MayAlloc (pool_of k.state) k.task killed grant (at.Head p) turn new → Steps (at.Head p) k turn new
alloc_head p k killed grant turn new row =
    by_test killed row
    (λ _ r. went call.Alloc _ k _ _ turn new r (quiet _ k _ _ refl refl refl k.stands.0 k.fits))
    (λ _ r. went call.Alloc _ k _ _ turn new r (quiet _ k _ _ refl refl refl k.stands k.fits))

alloc_want : (p : Want) (k : In (at.Want p)) (killed grant : Bool) (turn : Turn AllocPhase) (new : Pool)
    → MayAlloc (pool_of k.state) k.task killed grant (at.Want p) turn new → Steps (at.Want p) k turn new
alloc_want p k killed grant turn new row =
    by_test killed row
    (λ _ r. went call.Alloc _ k _ _ turn new r (quiet _ k _ _ refl refl refl k.stands.0 k.fits))
    (λ _ r. wants_slot call.Alloc _ k p.allocation.file p.index (at.Want p)
    (at.Locked (record { allocation = p.allocation; index = p.index }))
    turn new r refl refl k.stands.1.0
    (below_limit k.state.geometry p.allocation.file p.allocation.from p.allocation.len p.index k.stands.1) k.stands.0
    (λ m e. (e, k.stands.1)))

alloc_locked : (p : Locked) (k : In (at.Locked p)) (killed grant : Bool) (turn : Turn AllocPhase) (new : Pool)
    → MayAlloc (pool_of k.state) k.task killed grant (at.Locked p) turn new → Steps (at.Locked p) k turn new
alloc_locked p k killed grant turn new row =
    by_test (is_some (k.state.pages p.allocation.file p.index)) row
    (λ _ r. went call.Alloc _ k _ _ turn new r (quiet _ k _ _ refl refl refl (ap place_of k.stands.0, k.stands.1) k.fits))
    (λ none r. went call.Alloc _ k _ _ turn new r
    (looks _ k p.allocation.file p.index _ refl (ap place_of k.stands.0) (no_page _ none) (λ m e. (e, k.stands.1))))

alloc_missing : (p : Missing) (k : In (at.Missing p)) (killed grant : Bool) (turn : Turn AllocPhase) (new : Pool)
    → MayAlloc (pool_of k.state) k.task killed grant (at.Missing p) turn new → Steps (at.Missing p) k turn new
alloc_missing p k killed grant turn new (inl row) =
    by_test ((k.state.spare p.allocation.file == k.state.pending p.allocation.file) && not grant) row
    (λ _ r. went call.Alloc _ k _ _ turn new r (quiet _ k _ _ refl refl refl (ap place_of k.stands.0, k.stands.1) k.fits))
    (λ _ r. went call.Alloc _ k _ _ turn new r
    (quiet _ k _ _ refl refl refl (k.stands.0, k.stands.1, (one_change (k.state.reserved p.allocation.file) p.index).0) k.fits))
alloc_missing p k killed grant turn new (inr r) =
    went call.Alloc _ k _ _ turn new r (quiet _ k _ _ refl refl refl (ap place_of k.stands.0, k.stands.1) k.fits)

alloc_changed : (p : Changed) (k : In (at.Changed p)) (killed grant : Bool) (turn : Turn AllocPhase) (new : Pool)
    → MayAlloc (pool_of k.state) k.task killed grant (at.Changed p) turn new → Steps (at.Changed p) k turn new
alloc_changed p k killed grant turn new row =
    let aborts : (a : Answer) → Booked (call.Alloc (at.Changed p)) k (pool_of k.state)
    (Some (call.Alloc (at.Abort (record { allocation = p.allocation; index = p.index; pending = p.pending; answer = a })))) =
    λ a. quiet _ k _ _ refl refl refl (k.stands.0, k.stands.1) k.fits in
    elim row [
      | inl r ↦ by_test killed r
          (λ _ r. went call.Alloc _ k _ _ turn new r (aborts answer.Interrupted))
          (λ _ r. takes call.Alloc _ k p.pending.missing
          (λ a. at.Abort (record { allocation = p.allocation; index = p.index; pending = p.pending; answer = a }))
          (λ x. at.Taken (record { allocation = p.allocation; index = p.index; pending = p.pending; held = x })) turn new r aborts refl
          (λ x. refl) (λ x. k.stands))
      | inr r ↦ went call.Alloc _ k _ _ turn new r (aborts answer.NoFrame)
    ]

alloc_abort : (p : Abort) (k : In (at.Abort p)) (killed grant : Bool) (turn : Turn AllocPhase) (new : Pool)
    → MayAlloc (pool_of k.state) k.task killed grant (at.Abort p) turn new → Steps (at.Abort p) k turn new
alloc_abort p k killed grant turn new r =
    went call.Alloc _ k _ _ turn new r (quiet _ k _ _ refl refl refl (ap place_of k.stands.0, k.stands.1) k.fits)

-- what is known at the commit
settling : (p : Taken) (k : In (at.Taken p))
    → Committing (call.Alloc (at.Taken p)) k p.allocation.file p.index p.pending
    (call.Alloc (at.Settle (record { allocation = p.allocation; index = p.index; held = p.held }))) 0
settling p k = record {
  file = k.stands.1.0;
  index = below_limit k.state.geometry p.allocation.file p.allocation.from p.allocation.len p.index k.stands.1;
  one = k.stands.2;
  bare = k.stands.0;
  held = refl;
  owes = refl;
  owed = refl;
  promised = (refl, refl);
  known = λ m e. (e, k.stands.1);
}

entering : (p : Taken) (k : In (at.Taken p))
    → Committing (call.Alloc (at.Taken p)) k p.allocation.file p.index p.pending
    (call.Alloc (at.Committed (record { allocation = p.allocation; index = p.index; held = p.held }))) 1
entering p k = record {
  file = k.stands.1.0;
  index = below_limit k.state.geometry p.allocation.file p.allocation.from p.allocation.len p.index k.stands.1;
  one = k.stands.2;
  bare = k.stands.0;
  held = refl;
  owes = refl;
  owed = refl;
  promised = (refl, refl);
  known = λ m e. (e, k.stands.1);
}

alloc_settle : (p : Settle) (k : In (at.Settle p)) (killed grant : Bool) (turn : Turn AllocPhase) (new : Pool)
    → MayAlloc (pool_of k.state) k.task killed grant (at.Settle p) turn new → Steps (at.Settle p) k turn new
alloc_settle p k killed grant turn new r =
    settles_one call.Alloc _ k (at.Committed (record { allocation = p.allocation; index = p.index; held = p.held })) turn new r refl
    (refl, refl, refl) k.stands

alloc_committed : (p : Committed) (k : In (at.Committed p)) (killed grant : Bool) (turn : Turn AllocPhase) (new : Pool)
    → MayAlloc (pool_of k.state) k.task killed grant (at.Committed p) turn new → Steps (at.Committed p) k turn new
alloc_committed p k killed grant turn new row =
    by_test grant row
    (λ _ r. went call.Alloc _ k _ _ turn new r
    (places _ k p.allocation.file p.index p.held _ refl refl k.stands.0
    (below_limit k.state.geometry p.allocation.file p.allocation.from p.allocation.len p.index k.stands.1)
    (λ m e. (ap place_of e, k.stands.1))))
    (λ _ r. went call.Alloc _ k _ _ turn new r (quiet _ k _ _ refl refl refl k.stands k.fits))

alloc_restored : (p : Restore) (k : In (at.Restore p)) (turn : Turn AllocPhase) (new : Pool)
    → AllocRestoreRow (pool_of k.state) p turn new → Steps (at.Restore p) k turn new
alloc_restored p k turn new r =
    went call.Alloc _ k _ _ turn new r
    (restores _ k p.allocation.file p.index p.held _ refl refl (ap place_of k.stands.0, k.stands.1))

alloc_restore : (p : Restore) (k : In (at.Restore p)) (turn : Turn AllocPhase) (new : Pool) → k.exact ≡ false
    → AllocRestoreRow (pool_of k.state) p turn new
    ⊎ (AllocBacksOutRow (pool_of k.state) p turn new ⊎ AllocEntersAgainRow (pool_of k.state) p turn new) → Steps (at.Restore p) k turn new
alloc_restore p k turn new loose (inl r) = alloc_restored p k turn new r
alloc_restore p k turn new loose (inr (inl r)) =
    went call.Alloc _ k _ _ turn new r
    (backs_out _ k p.allocation.file p.index p.held _ _ loose refl refl k.stands.0 (λ m e. (ap place_of e, k.stands.1)))
alloc_restore p k turn new loose (inr (inr r)) =
    went call.Alloc _ k _ _ turn new r
    (enters_again _ k p.allocation.file p.index p.held _ loose k.stands.1.0
    (below_limit k.state.geometry p.allocation.file p.allocation.from p.allocation.len p.index k.stands.1) refl refl
    (ap place_of k.stands.0, k.stands.1))

alloc_unslot : (p : Unslot) (k : In (at.Unslot p)) (killed grant : Bool) (turn : Turn AllocPhase) (new : Pool)
    → MayAlloc (pool_of k.state) k.task killed grant (at.Unslot p) turn new → Steps (at.Unslot p) k turn new
alloc_unslot p k killed grant turn new row =
    by_option p.answer row
    (λ _ r. by_test (nat_lt (p.index + 1) (p.allocation.from + p.allocation.len)) r
    (λ further r. went call.Alloc _ k _ _ turn new r
    (leaves_slot _ k p.allocation.file p.index _ refl k.stands.0
    (λ m e. (e, (k.stands.1.0, lt (p.index + 1) (p.allocation.from + p.allocation.len) further, k.stands.1.2)))))
    (λ _ r. by_test p.allocation.keep r
    (λ _ r. went call.Alloc _ k _ _ turn new r (leaves_slot _ k p.allocation.file p.index _ refl k.stands.0 (λ m e. e)))
    (λ _ r. went call.Alloc _ k _ _ turn new r (leaves_slot _ k p.allocation.file p.index _ refl k.stands.0 (λ m e. (e, k.stands.1.2))))))
    (λ a _ r. went call.Alloc _ k _ _ turn new r (leaves_slot _ k p.allocation.file p.index _ refl k.stands.0 (λ m e. e)))

alloc_extend : (p : Extend) (k : In (at.Extend p)) (killed grant : Bool) (turn : Turn AllocPhase) (new : Pool)
    → MayAlloc (pool_of k.state) k.task killed grant (at.Extend p) turn new → Steps (at.Extend p) k turn new
alloc_extend p k killed grant turn new r = went call.Alloc _ k _ _ turn new r (quiet _ k _ _ refl refl refl k.stands.0 (sized, k.fits.1))
  where
    sized : (f : ℕ) → put k.state.size p.allocation.file (max (k.state.size p.allocation.file) (p.allocation.from + p.allocation.len)) f
        ≤ k.state.geometry.limit
    sized f =
        let most = max (k.state.size p.allocation.file) (p.allocation.from + p.allocation.len) in
        elim (put_tells k.state.size p.allocation.file most f) [
          | inl q ↦ (let a = q.1 in let b = k.fits.0 p.allocation.file in let d = k.stands.1 in omega arith)
          | inr q ↦ (let a = q.1 in let b = k.fits.0 f in omega arith)
        ]

alloc_leave : (p : Leave) (k : In (at.Leave p)) (killed grant : Bool) (turn : Turn AllocPhase) (new : Pool)
    → MayAlloc (pool_of k.state) k.task killed grant (at.Leave p) turn new → Steps (at.Leave p) k turn new
alloc_leave p k killed grant turn new r = over call.Alloc _ k p.answer _ turn new r (quiet _ k _ None refl refl refl k.stands k.fits)

-- by Linux's rows
pub alloc_steps : (phase : AllocPhase) (k : In phase) (killed grant : Bool) (turn : Turn AllocPhase) (new : Pool) → k.exact ≡ false
    → MayAlloc (pool_of k.state) k.task killed grant phase turn new → Steps phase k turn new
alloc_steps (at.Start p) k killed grant turn new loose r = alloc_start p k killed grant turn new r
alloc_steps (at.Head p) k killed grant turn new loose r = alloc_head p k killed grant turn new r
alloc_steps (at.Want p) k killed grant turn new loose r = alloc_want p k killed grant turn new r
alloc_steps (at.Locked p) k killed grant turn new loose r = alloc_locked p k killed grant turn new r
alloc_steps (at.Missing p) k killed grant turn new loose r = alloc_missing p k killed grant turn new r
alloc_steps (at.Changed p) k killed grant turn new loose r = alloc_changed p k killed grant turn new r
alloc_steps (at.Abort p) k killed grant turn new loose r = alloc_abort p k killed grant turn new r
alloc_steps (at.Taken p) k killed grant turn new loose r =
    commit_ignores call.Alloc _ k p.allocation.file p.index p.pending _ _ turn new loose r (settling p k) (entering p k)
alloc_steps (at.Settle p) k killed grant turn new loose r = alloc_settle p k killed grant turn new r
alloc_steps (at.Committed p) k killed grant turn new loose r = alloc_committed p k killed grant turn new r
alloc_steps (at.Restore p) k killed grant turn new loose r = alloc_restore p k turn new loose r
alloc_steps (at.Unslot p) k killed grant turn new loose r = alloc_unslot p k killed grant turn new r
alloc_steps (at.Extend p) k killed grant turn new loose r = alloc_extend p k killed grant turn new r
alloc_steps (at.Leave p) k killed grant turn new loose r = alloc_leave p k killed grant turn new r

-- and by repaired ones
pub repaired_alloc_steps : (phase : AllocPhase) (k : In phase) (killed grant : Bool) (turn : Turn AllocPhase) (new : Pool)
    → RepairedAlloc (pool_of k.state) k.task killed grant phase turn new → Steps phase k turn new
repaired_alloc_steps (at.Start p) k killed grant turn new r = alloc_start p k killed grant turn new r
repaired_alloc_steps (at.Head p) k killed grant turn new r = alloc_head p k killed grant turn new r
repaired_alloc_steps (at.Want p) k killed grant turn new r = alloc_want p k killed grant turn new r
repaired_alloc_steps (at.Locked p) k killed grant turn new r = alloc_locked p k killed grant turn new r
repaired_alloc_steps (at.Missing p) k killed grant turn new r = alloc_missing p k killed grant turn new r
repaired_alloc_steps (at.Changed p) k killed grant turn new r = alloc_changed p k killed grant turn new r
repaired_alloc_steps (at.Abort p) k killed grant turn new r = alloc_abort p k killed grant turn new r
repaired_alloc_steps (at.Taken p) k killed grant turn new r =
    commit_accounts call.Alloc _ k p.allocation.file p.index p.pending _ _ turn new r (settling p k) (entering p k)
repaired_alloc_steps (at.Settle p) k killed grant turn new r = alloc_settle p k killed grant turn new r
repaired_alloc_steps (at.Committed p) k killed grant turn new r = alloc_committed p k killed grant turn new r
repaired_alloc_steps (at.Restore p) k killed grant turn new r = alloc_restored p k turn new r
repaired_alloc_steps (at.Unslot p) k killed grant turn new r = alloc_unslot p k killed grant turn new r
repaired_alloc_steps (at.Extend p) k killed grant turn new r = alloc_extend p k killed grant turn new r
repaired_alloc_steps (at.Leave p) k killed grant turn new r = alloc_leave p k killed grant turn new r
