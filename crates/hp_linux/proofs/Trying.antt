-- How a step by Linux's rows is found.
use Rattle.std.proofs.Common.{refl, inr}
use Rattle.std.specs.Prelude.{nat_le, nat_lt, is_some, Some, None}
use Rattle.hp_machine.specs.State.{Pool}
use Rattle.hp_machine.specs.Events.{CallRow}
use Rattle.hp_machine.specs.declared.call.Call.TheVariants as call
use Rattle.hp_machine.specs.declared.call.Turn.TheVariants.{Moved}
use Rattle.hp_machine.specs.declared.touch.Committed.{Committed}
use Rattle.hp_machine.specs.declared.touch.Found.{Found}
use Rattle.hp_machine.specs.declared.touch.Locked.{Locked}
use Rattle.hp_machine.specs.declared.touch.TouchPhase.TheVariants as touch
use Rattle.hp_machine.specs.declared.punch.PunchPhase.TheVariants as punch
use Rattle.hp_machine.specs.declared.truncate.Want.{Want}
use Rattle.hp_machine.specs.declared.truncate.TruncatePhase.TheVariants as truncate
use Rattle.hp_counterexamples.specs.Cutting.{PagesOnlyWantRow}
use Rattle.hp_counterexamples.proofs.Searching.{Clear, bind, clear_placed, pick, what_is, word_at}
use Rattle.hp_counterexamples.proofs.Steps.{Tried, by, goes, test, try_call, try_punch, want}
use Rattle.hp_counterexamples.proofs.Running.{TriesCalls}
use Rattle.std.specs.Prelude.{Bool, ℕ}
use Rattle.hp_linux.specs.Rows.{BacksOut, FreesLate, LinuxRows, LooksForPagesFirst, PassesAndPlaces}
use Rattle.hp_linux.specs.Rows.{PageFirstRow, UnsizedCommittedRow, UnsizedFoundRow}

abbrev pub page_first : (s : Pool) (p : Locked) → Clear s.geometry.limit s.pages → Tried (PageFirstRow s p)
page_first s p h =
    test (is_some (s.pages p.touch.file p.touch.index)) (λ _. goes _ s h)
    (λ _. test (nat_le (s.size p.touch.file) p.touch.index) (λ _. goes _ s h) (λ _. goes _ s h))

abbrev pub unsized_committed : (s : Pool) (grant : Bool) (p : Committed) → Clear s.geometry.limit s.pages
    → Tried (UnsizedCommittedRow s grant p)
unsized_committed s grant p h =
    test grant
    (λ _. pick (nat_lt p.touch.index s.geometry.limit)
    (λ e. goes _ _ (clear_placed s.geometry.limit s.pages p.touch.file p.touch.index p.held h e)) (λ _. None))
    (λ _. goes _ s h)

abbrev pub unsized_found : (s : Pool) (t : ℕ) (grant : Bool) (p : Found) → Clear s.geometry.limit s.pages
    → Tried (UnsizedFoundRow s t grant p)
unsized_found s t grant p h =
    test grant
    (λ _. bind (what_is (s.pages p.touch.file p.touch.index))
    (λ x. bind (word_at (s.frame x.0)) (λ w. Some (Moved _, _, (x.0, w.0, x.1, w.1, (refl, refl)), h))))
    (λ _. goes _ s h)

abbrev pub pages_only : (s : Pool) (t : ℕ) (p : Want) → Clear s.geometry.limit s.pages → Tried (PagesOnlyWantRow s t p)
pages_only s t p h =
    test (is_some (s.pages p.truncation.file p.index)) (λ _. want s t p.truncation.file p.index _ _ h)
    (λ _. test (nat_lt p.truncation.new p.index) (λ _. goes _ s h) (λ _. goes _ s h))

abbrev pub try_LooksForPagesFirst : TriesCalls LooksForPagesFirst
unfolding LooksForPagesFirst CallRow
try_LooksForPagesFirst s t killed grant (call.Touch (touch.Locked p)) h = by call.Touch _ (page_first s p h)
try_LooksForPagesFirst s t killed grant (call.Touch (touch.Found p)) h = by call.Touch _ (unsized_found s t grant p h)
try_LooksForPagesFirst s t killed grant c h = try_call s t killed grant c h

abbrev pub try_BacksOut : TriesCalls BacksOut
unfolding BacksOut CallRow
try_BacksOut s t killed grant (call.Touch (touch.Restore p)) h =
    by call.Touch _ (Some (Moved _, _, inr (refl, refl), h))
try_BacksOut s t killed grant c h = try_call s t killed grant c h

abbrev pub try_PassesAndPlaces : TriesCalls PassesAndPlaces
unfolding PassesAndPlaces CallRow
try_PassesAndPlaces s t killed grant (call.Touch (touch.Committed p)) h = by call.Touch _ (unsized_committed s grant p h)
try_PassesAndPlaces s t killed grant (call.Touch (touch.Found p)) h = by call.Touch _ (unsized_found s t grant p h)
try_PassesAndPlaces s t killed grant (call.Truncate (truncate.Want p)) h = by call.Truncate _ (pages_only s t p h)
try_PassesAndPlaces s t killed grant c h = try_call s t killed grant c h

abbrev pub try_LinuxRows : TriesCalls LinuxRows
unfolding LinuxRows CallRow
try_LinuxRows s t killed grant (call.Touch (touch.Locked p)) h = by call.Touch _ (page_first s p h)
try_LinuxRows s t killed grant (call.Touch (touch.Committed p)) h = by call.Touch _ (unsized_committed s grant p h)
try_LinuxRows s t killed grant (call.Touch (touch.Found p)) h = by call.Touch _ (unsized_found s t grant p h)
try_LinuxRows s t killed grant (call.Punch (punch.Delete p)) h =
    by call.Punch _ (test (s.reserved p.hole.file p.index) (λ _. try_punch s t killed grant (punch.Delete p) h) (λ _. goes _ _ h))
try_LinuxRows s t killed grant (call.Punch (punch.Free p)) h =
    by call.Punch _ (test p.denied (λ _. goes _ _ h) (λ _. goes _ _ h))
try_LinuxRows s t killed grant (call.Truncate (truncate.Want p)) h = by call.Truncate _ (pages_only s t p h)
try_LinuxRows s t killed grant c h = try_call s t killed grant c h

abbrev pub try_FreesLate : TriesCalls FreesLate
unfolding FreesLate
try_FreesLate s t killed grant (call.Punch (punch.Free p)) h =
    by call.Punch _ (test p.denied (λ _. goes _ _ h) (λ _. goes _ _ h))
try_FreesLate s t killed grant (call.Truncate (truncate.Free p)) h = by call.Truncate _ (goes _ s h)
try_FreesLate s t killed grant c h = try_LinuxRows s t killed grant c h
