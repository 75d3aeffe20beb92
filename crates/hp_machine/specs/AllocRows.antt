-- The rows of an allocation: what one step in each phase may do.
use Rattle.std.specs.Prelude.{ℕ, ◌+◌, Bool, Some, None, MatchBool, MatchOption, is_some, max, nat_lt}
use Rattle.hp_base.specs.Numbers.{put}
use Rattle.hp_base.specs.declared.answer.Answer.TheVariants as answer
use Rattle.hp_machine.specs.State.{Pool}
use Rattle.hp_machine.specs.Parts.{Goes, Ends, StartRow, is_bad_range, unlocked, WantSlotRow, unslotted, ChangeRow, aborted}
use Rattle.hp_machine.specs.Parts.{CommitRow, TakeRow, SettleOneRow, placed, restored}
use Rattle.hp_machine.specs.declared.alloc.Start.{Start}
use Rattle.hp_machine.specs.declared.alloc.Head.{Head}
use Rattle.hp_machine.specs.declared.alloc.Want.{Want}
use Rattle.hp_machine.specs.declared.alloc.Locked.{Locked}
use Rattle.hp_machine.specs.declared.alloc.Missing.{Missing}
use Rattle.hp_machine.specs.declared.alloc.Changed.{Changed}
use Rattle.hp_machine.specs.declared.alloc.Abort.{Abort}
use Rattle.hp_machine.specs.declared.alloc.Taken.{Taken}
use Rattle.hp_machine.specs.declared.alloc.Settle.{Settle}
use Rattle.hp_machine.specs.declared.alloc.Committed.{Committed}
use Rattle.hp_machine.specs.declared.alloc.Restore.{Restore}
use Rattle.hp_machine.specs.declared.alloc.Unslot.{Unslot}
use Rattle.hp_machine.specs.declared.alloc.Extend.{Extend}
use Rattle.hp_machine.specs.declared.alloc.Leave.{Leave}
use Rattle.hp_machine.specs.declared.alloc.AllocPhase.{AllocPhase}
use Rattle.hp_machine.specs.declared.alloc.AllocPhase.TheVariants as at
use Rattle.hp_machine.specs.declared.call.Turn.{Turn}

-- range check. Killed: Interrupted. File lock held: blocked. Else it is taken, to head with the first index
abbrev pub AllocStartRow : Pool → (task : ℕ) → (killed : Bool) → Start → Turn AllocPhase → Pool → Type 0
AllocStartRow s t killed p turn new =
    StartRow s t killed p.allocation.file (is_bad_range s p.allocation.from p.allocation.len) answer.Interrupted
    (at.Start p) (at.Head (record { allocation = p.allocation; index = p.allocation.from })) turn new

-- killed: to leave (Interrupted). Else to want
abbrev pub AllocHeadRow : Pool → (killed : Bool) → Head → Turn AllocPhase → Pool → Type 0
AllocHeadRow s killed p turn new =
    MatchBool killed
    (Goes (at.Leave (record { allocation = p.allocation; answer = answer.Interrupted })) s turn new)
    (Goes (at.Want (record { allocation = p.allocation; index = p.index })) s turn new)

-- killed: to leave (Interrupted). Slot held: blocked. Else it is taken, to locked
abbrev pub AllocWantRow : Pool → (task : ℕ) → (killed : Bool) → Want → Turn AllocPhase → Pool → Type 0
AllocWantRow s t killed p turn new =
    MatchBool killed
    (Goes (at.Leave (record { allocation = p.allocation; answer = answer.Interrupted })) s turn new)
    (WantSlotRow s t p.allocation.file p.index (at.Want p) (at.Locked (record { allocation = p.allocation; index = p.index })) turn new)

-- page cached: to unslot. Else to missing
abbrev pub AllocLockedRow : Pool → Locked → Turn AllocPhase → Pool → Type 0
AllocLockedRow s p turn new =
    MatchBool (is_some (s.pages p.allocation.file p.index))
    (Goes (at.Unslot (record { allocation = p.allocation; index = p.index; answer = None })) s turn new)
    (Goes (at.Missing (record { allocation = p.allocation; index = p.index })) s turn new)

-- change of the index denied: to unslot (NoMemory). Else to changed
abbrev pub AllocMissingRow : Pool → (grant : Bool) → Missing → Turn AllocPhase → Pool → Type 0
AllocMissingRow s grant p turn new =
    ChangeRow s grant p.allocation.file p.index (p.index + 1)
    (at.Unslot (record { allocation = p.allocation; index = p.index; answer = Some answer.NoMemory }))
    (λ change. at.Changed (record { allocation = p.allocation; index = p.index; pending = change })) turn new

-- killed: to abort (Interrupted). Else a frame is taken, to taken, or to abort (NoQuota, NoFrame)
abbrev pub AllocChangedRow : Pool → (killed : Bool) → Changed → Turn AllocPhase → Pool → Type 0
AllocChangedRow s killed p turn new =
    MatchBool killed
    (Goes (at.Abort (record { allocation = p.allocation; index = p.index; pending = p.pending; answer = answer.Interrupted })) s turn new)
    (TakeRow s p.pending.missing
    (λ a. at.Abort (record { allocation = p.allocation; index = p.index; pending = p.pending; answer = a }))
    (λ x. at.Taken (record { allocation = p.allocation; index = p.index; pending = p.pending; held = x })) turn new)

-- the change is aborted, to unslot
abbrev pub AllocAbortRow : Pool → Abort → Turn AllocPhase → Pool → Type 0
AllocAbortRow s p turn new =
    Goes (at.Unslot (record { allocation = p.allocation; index = p.index; answer = Some p.answer }))
    (aborted s p.allocation.file) turn new

-- commit; added less than missing: to settle. Else to committed
abbrev pub AllocTakenRow : Pool → Taken → Turn AllocPhase → Pool → Type 0
AllocTakenRow s p turn new =
    CommitRow s p.allocation.file p.pending
    (at.Settle (record { allocation = p.allocation; index = p.index; held = p.held }))
    (at.Committed (record { allocation = p.allocation; index = p.index; held = p.held })) turn new

-- resv and used minus 1, to committed
abbrev pub AllocSettleRow : Pool → Settle → Turn AllocPhase → Pool → Type 0
AllocSettleRow s p turn new = SettleOneRow s (at.Committed (record { allocation = p.allocation; index = p.index; held = p.held })) turn new

-- denied: to restore (NoMemory). Else the frame is placed, to unslot
abbrev pub AllocCommittedRow : Pool → (grant : Bool) → Committed → Turn AllocPhase → Pool → Type 0
AllocCommittedRow s grant p turn new =
    MatchBool grant
    (Goes (at.Unslot (record { allocation = p.allocation; index = p.index; answer = None }))
    (placed s p.allocation.file p.index p.held) turn new)
    (Goes (at.Restore (record { allocation = p.allocation; index = p.index; held = p.held; answer = answer.NoMemory })) s turn new)

-- the frame is freed, resv plus 1, the map's entry stays, to unslot
abbrev pub AllocRestoreRow : Pool → Restore → Turn AllocPhase → Pool → Type 0
AllocRestoreRow s p turn new =
    Goes (at.Unslot (record { allocation = p.allocation; index = p.index; answer = Some p.answer })) (restored s p.held) turn new

-- the slot is left. An answer is carried: to leave. More indices: to head with the next. Else to leave (Done)
-- where the size is kept, to extend where not
abbrev pub AllocUnslotRow : Pool → Unslot → Turn AllocPhase → Pool → Type 0
AllocUnslotRow s p turn new =
    let after = unslotted s p.allocation.file p.index in
    MatchOption p.answer
    (MatchBool (nat_lt (p.index + 1) (p.allocation.from + p.allocation.len))
    (Goes (at.Head (record { allocation = p.allocation; index = p.index + 1 })) after turn new)
    (MatchBool p.allocation.keep
    (Goes (at.Leave (record { allocation = p.allocation; answer = answer.Done })) after turn new)
    (Goes (at.Extend (record { allocation = p.allocation })) after turn new)))
    (λ carried. Goes (at.Leave (record { allocation = p.allocation; answer = carried })) after turn new)

-- size becomes the larger of size and from + len, to leave (Done)
abbrev pub AllocExtendRow : Pool → Extend → Turn AllocPhase → Pool → Type 0
AllocExtendRow s p turn new =
    Goes (at.Leave (record { allocation = p.allocation; answer = answer.Done }))
    (record s { size = put s.size p.allocation.file (max (s.size p.allocation.file) (p.allocation.from + p.allocation.len)) }) turn new

-- the file lock is left
abbrev pub AllocLeaveRow : Pool → Leave → Turn AllocPhase → Pool → Type 0
AllocLeaveRow s p turn new = Ends p.answer (unlocked s p.allocation.file) turn new

-- what one step of an allocation may do
abbrev pub AllocRow : Pool → (task : ℕ) → (killed grant : Bool) → AllocPhase → Turn AllocPhase → Pool → Type 0
AllocRow s t killed grant (at.Start p) turn new = AllocStartRow s t killed p turn new
AllocRow s t killed grant (at.Head p) turn new = AllocHeadRow s killed p turn new
AllocRow s t killed grant (at.Want p) turn new = AllocWantRow s t killed p turn new
AllocRow s t killed grant (at.Locked p) turn new = AllocLockedRow s p turn new
AllocRow s t killed grant (at.Missing p) turn new = AllocMissingRow s grant p turn new
AllocRow s t killed grant (at.Changed p) turn new = AllocChangedRow s killed p turn new
AllocRow s t killed grant (at.Abort p) turn new = AllocAbortRow s p turn new
AllocRow s t killed grant (at.Taken p) turn new = AllocTakenRow s p turn new
AllocRow s t killed grant (at.Settle p) turn new = AllocSettleRow s p turn new
AllocRow s t killed grant (at.Committed p) turn new = AllocCommittedRow s grant p turn new
AllocRow s t killed grant (at.Restore p) turn new = AllocRestoreRow s p turn new
AllocRow s t killed grant (at.Unslot p) turn new = AllocUnslotRow s p turn new
AllocRow s t killed grant (at.Extend p) turn new = AllocExtendRow s p turn new
AllocRow s t killed grant (at.Leave p) turn new = AllocLeaveRow s p turn new
