-- Rows of Linux's that the machine doesn't have, and machines with them.
use Rattle.std.specs.Prelude.{◌≡◌, ℕ, ◌+◌, ◌-◌, ◌⊎◌, Bool, false, Some, MatchBool, is_some, nat_le, if◌then◌else◌}
use Rattle.hp_base.specs.Numbers.{put, put2}
use Rattle.hp_base.specs.declared.answer.Answer.TheVariants as answer
use Rattle.hp_frames.specs.declared.frame.FrameState.TheVariants as frame
use Rattle.hp_machine.specs.State.{Pool, frees}
use Rattle.hp_machine.specs.Parts.{Goes, placed, answer_of, frame_after}
use Rattle.hp_machine.specs.TouchRows.{TouchRestoreRow}
use Rattle.hp_machine.specs.PunchRows.{PunchDeleteRow}
use Rattle.hp_machine.specs.Events.{CallRow, CallRows, TurnRow}
use Rattle.hp_machine.specs.declared.touch.Locked.{Locked}
use Rattle.hp_machine.specs.declared.touch.Committed.{Committed}
use Rattle.hp_machine.specs.declared.touch.Restore.{Restore}
use Rattle.hp_machine.specs.declared.touch.Found.{Found}
use Rattle.hp_machine.specs.declared.touch.TouchPhase.{TouchPhase}
use Rattle.hp_machine.specs.declared.touch.TouchPhase.TheVariants as touch
use Rattle.hp_machine.specs.declared.punch.Delete.{Delete}
use Rattle.hp_machine.specs.declared.punch.Free.{Free}
use Rattle.hp_machine.specs.declared.punch.PunchPhase.{PunchPhase}
use Rattle.hp_machine.specs.declared.punch.PunchPhase.TheVariants as punch
use Rattle.hp_machine.specs.declared.truncate.Free as truncate_free
use Rattle.hp_machine.specs.declared.truncate.TruncatePhase.{TruncatePhase}
use Rattle.hp_machine.specs.declared.truncate.TruncatePhase.TheVariants as truncate
use Rattle.hp_machine.specs.declared.call.Call.TheVariants as call
use Rattle.hp_machine.specs.declared.call.Turn.{Turn}
use Rattle.hp_counterexamples.specs.Cutting.{PagesOnlyWantRow}

-- P: a touch looks for the page, and at the size only where there is none
abbrev pub PageFirstRow : Pool → Locked → Turn TouchPhase → Pool → Type 0
PageFirstRow s p turn new =
    MatchBool (is_some (s.pages p.touch.file p.touch.index))
    (Goes (touch.Found (record { touch = p.touch })) s turn new)
    (MatchBool (nat_le (s.size p.touch.file) p.touch.index)
    (Goes (touch.Leave (record { touch = p.touch; answer = answer.Beyond })) s turn new)
    (Goes (touch.Missing (record { touch = p.touch })) s turn new))

-- S: a touch doesn't look at the size where it places its page
abbrev pub UnsizedCommittedRow : Pool → (grant : Bool) → Committed → Turn TouchPhase → Pool → Type 0
UnsizedCommittedRow s grant p turn new =
    MatchBool grant
    (Goes (touch.Found (record { touch = p.touch })) (placed s p.touch.file p.touch.index p.held) turn new)
    (Goes (touch.Restore (record { touch = p.touch; held = p.held; answer = answer.NoMemory })) s turn new)

-- nor where it translates it
abbrev pub UnsizedFoundRow : Pool → (task : ℕ) → (grant : Bool) → Found → Turn TouchPhase → Pool → Type 0
UnsizedFoundRow s t grant p turn new =
    MatchBool grant
    ((x : ℕ) × (word : ℕ) × (s.pages p.touch.file p.touch.index ≡ Some x) × (s.frame x ≡ frame.Placed word)
    × Goes (touch.Leave (record { touch = p.touch; answer = answer_of p.touch.access word }))
    (record s { entries = put2 s.entries t p.touch.vpn (Some x); frame = frame_after p.touch.access s.frame x }) turn new)
    (Goes (touch.Leave (record { touch = p.touch; answer = answer.NoMemory })) s turn new)

-- the count, and one more where more than it are free (`hugetlb_acct_memory`)
abbrev pub raised_count : Pool → ℕ
raised_count s = if nat_le (s.resv + 1) (frees s) then s.resv + 1 else s.resv

-- N: a punch whose page's index isn't in the map any more raises the count by one before the page's frame is free, or is refused that
abbrev pub RaisingDeleteRow : Pool → (grant : Bool) → Delete → Turn PunchPhase → Pool → Type 0
RaisingDeleteRow s grant p turn new =
    MatchBool (s.reserved p.hole.file p.index)
    (PunchDeleteRow s grant p turn new)
    (Goes (punch.Free (record { hole = p.hole; index = p.index; held = p.held; denied = false }))
    (record s { resv = raised_count s }) turn new)

-- and doesn't mind the used count, which only a quota reads
abbrev pub UntalliedFreeRow : Pool → Free → Turn PunchPhase → Pool → Type 0
UntalliedFreeRow s p turn new =
    MatchBool p.denied
    (Goes (punch.Unslot (record { hole = p.hole; index = p.index }))
    (record s { frame = put s.frame p.held frame.Free; resv = s.resv + 1 }) turn new)
    (Goes (punch.Unslot (record { hole = p.hole; index = p.index }))
    (record s { frame = put s.frame p.held frame.Free; used = s.used - 1 }) turn new)

-- F: the frame of a page that a punch took away becomes free later, when the call has left its slot. Where the page's index stays in the
-- map, for its deletion was refused memory, the count is raised before that, or that is refused, too
abbrev pub LatePunchFreeRow : Pool → Free → Turn PunchPhase → Pool → Type 0
LatePunchFreeRow s p turn new =
    MatchBool p.denied
    (Goes (punch.Unslot (record { hole = p.hole; index = p.index })) (record s { resv = raised_count s }) turn new)
    (Goes (punch.Unslot (record { hole = p.hole; index = p.index })) (record s { used = s.used - 1 }) turn new)

-- so does that of a page that a truncation took away
abbrev pub LateTruncateFreeRow : Pool → truncate_free.Free → Turn TruncatePhase → Pool → Type 0
LateTruncateFreeRow s p turn new =
    Goes (truncate.Unslot (record { truncation = p.truncation; index = p.index; evicted = p.evicted })) s turn new

-- U: an unreserved touch that gives its frame back takes its index out of the map. (The phase doesn't tell whether the
-- frame was a reserved one, so either row may be taken.)
abbrev pub BacksOutRow : Pool → Restore → Turn TouchPhase → Pool → Type 0
BacksOutRow s p turn new =
    TouchRestoreRow s p turn new
    ⊎ Goes (touch.Leave (record { touch = p.touch; answer = p.answer }))
    (record s {
      frame = put s.frame p.held frame.Free;
      reserved = put2 s.reserved p.touch.file p.touch.index false;
      used = s.used - 1;
    }) turn new

-- ---- machines

-- P, and S where a touch translates
unfoldable pub LooksForPagesFirst : CallRows
LooksForPagesFirst s t killed grant (call.Touch (touch.Locked p)) = TurnRow call.Touch (PageFirstRow s p)
LooksForPagesFirst s t killed grant (call.Touch (touch.Found p)) = TurnRow call.Touch (UnsizedFoundRow s t grant p)
LooksForPagesFirst s t killed grant other = CallRow s t killed grant other

-- U alone
unfoldable pub BacksOut : CallRows
BacksOut s t killed grant (call.Touch (touch.Restore p)) = TurnRow call.Touch (BacksOutRow s p)
BacksOut s t killed grant other = CallRow s t killed grant other

-- S and T
unfoldable pub PassesAndPlaces : CallRows
PassesAndPlaces s t killed grant (call.Touch (touch.Committed p)) = TurnRow call.Touch (UnsizedCommittedRow s grant p)
PassesAndPlaces s t killed grant (call.Touch (touch.Found p)) = TurnRow call.Touch (UnsizedFoundRow s t grant p)
PassesAndPlaces s t killed grant (call.Truncate (truncate.Want p)) = TurnRow call.Truncate (PagesOnlyWantRow s t p)
PassesAndPlaces s t killed grant other = CallRow s t killed grant other

-- P, S, T and N
unfoldable pub LinuxRows : CallRows
LinuxRows s t killed grant (call.Touch (touch.Locked p)) = TurnRow call.Touch (PageFirstRow s p)
LinuxRows s t killed grant (call.Touch (touch.Committed p)) = TurnRow call.Touch (UnsizedCommittedRow s grant p)
LinuxRows s t killed grant (call.Touch (touch.Found p)) = TurnRow call.Touch (UnsizedFoundRow s t grant p)
LinuxRows s t killed grant (call.Punch (punch.Delete p)) = TurnRow call.Punch (RaisingDeleteRow s grant p)
LinuxRows s t killed grant (call.Punch (punch.Free p)) = TurnRow call.Punch (UntalliedFreeRow s p)
LinuxRows s t killed grant (call.Truncate (truncate.Want p)) = TurnRow call.Truncate (PagesOnlyWantRow s t p)
LinuxRows s t killed grant other = CallRow s t killed grant other

-- P, S, T, N and F. (No recording that is followed needs B: each hole in them is one index, which has its page.)
unfoldable pub FreesLate : CallRows
FreesLate s t killed grant (call.Punch (punch.Free p)) = TurnRow call.Punch (LatePunchFreeRow s p)
FreesLate s t killed grant (call.Truncate (truncate.Free p)) = TurnRow call.Truncate (LateTruncateFreeRow s p)
FreesLate s t killed grant other = LinuxRows s t killed grant other
