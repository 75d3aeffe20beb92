-- The rows of a touch, a load or a store: what one step in each phase may do.
use Rattle.std.specs.Prelude.{◌≡◌, ℕ, ◌+◌, Bool, Some, MatchBool, MatchOption, nat_le}
use Rattle.std.specs.Prelude.{is_some}
use Rattle.hp_base.specs.Numbers.{put2}
use Rattle.hp_base.specs.Mappings.{find}
use Rattle.hp_base.specs.declared.answer.Answer.TheVariants as answer
use Rattle.hp_frames.specs.declared.frame.FrameState.TheVariants.{Placed}
use Rattle.hp_machine.specs.State.{Pool}
use Rattle.hp_machine.specs.Parts.{Goes, Ends, WantSlotRow, unslotted, ChangeRow, aborted, CommitRow, TakeRow, SettleOneRow}
use Rattle.hp_machine.specs.Parts.{placed, restored, answer_of, frame_after}
use Rattle.hp_machine.specs.declared.touch.Look.{Look}
use Rattle.hp_machine.specs.declared.touch.Want.{Want}
use Rattle.hp_machine.specs.declared.touch.Locked.{Locked}
use Rattle.hp_machine.specs.declared.touch.Missing.{Missing}
use Rattle.hp_machine.specs.declared.touch.Changed.{Changed}
use Rattle.hp_machine.specs.declared.touch.Abort.{Abort}
use Rattle.hp_machine.specs.declared.touch.Taken.{Taken}
use Rattle.hp_machine.specs.declared.touch.Settle.{Settle}
use Rattle.hp_machine.specs.declared.touch.Committed.{Committed}
use Rattle.hp_machine.specs.declared.touch.Restore.{Restore}
use Rattle.hp_machine.specs.declared.touch.Found.{Found}
use Rattle.hp_machine.specs.declared.touch.Leave.{Leave}
use Rattle.hp_machine.specs.declared.touch.TouchPhase.{TouchPhase}
use Rattle.hp_machine.specs.declared.touch.TouchPhase.TheVariants as at
use Rattle.hp_machine.specs.declared.call.Turn.{Turn}

-- vpn in no mapping: Segv. Translated: the word is read or written. Else to want
abbrev pub TouchLookRow : Pool → (task : ℕ) → Look → Turn TouchPhase → Pool → Type 0
TouchLookRow s t p turn new =
    MatchOption (find (s.mappings t) p.vpn)
    (Ends answer.Segv s turn new)
    (λ place. MatchOption (s.entries t p.vpn)
    (Goes (at.Want (record { touch = record { vpn = p.vpn; access = p.access; file = place.0; index = place.1 } })) s turn new)
    (λ x. (word : ℕ) × (s.frame x ≡ Placed word)
    × Ends (answer_of p.access word) (record s { frame = frame_after p.access s.frame x }) turn new))

-- killed: Killed. Slot held: blocked. Else the slot is taken, to locked
abbrev pub TouchWantRow : Pool → (task : ℕ) → (killed : Bool) → Want → Turn TouchPhase → Pool → Type 0
TouchWantRow s t killed p turn new =
    MatchBool killed
    (Ends answer.Killed s turn new)
    (WantSlotRow s t p.touch.file p.touch.index (at.Want p) (at.Locked (record { touch = p.touch })) turn new)

-- index at or above the size: to leave (Beyond). Page cached: to found. Else to missing
abbrev pub TouchLockedRow : Pool → Locked → Turn TouchPhase → Pool → Type 0
TouchLockedRow s p turn new =
    MatchBool (nat_le (s.size p.touch.file) p.touch.index)
    (Goes (at.Leave (record { touch = p.touch; answer = answer.Beyond })) s turn new)
    (MatchBool (is_some (s.pages p.touch.file p.touch.index))
    (Goes (at.Found (record { touch = p.touch })) s turn new)
    (Goes (at.Missing (record { touch = p.touch })) s turn new))

-- change of the index denied: to leave (NoMemory). Else to changed
abbrev pub TouchMissingRow : Pool → (grant : Bool) → Missing → Turn TouchPhase → Pool → Type 0
TouchMissingRow s grant p turn new =
    ChangeRow s grant p.touch.file p.touch.index (p.touch.index + 1)
    (at.Leave (record { touch = p.touch; answer = answer.NoMemory }))
    (λ change. at.Changed (record { touch = p.touch; pending = change })) turn new

-- killed: to abort (Killed). Else a frame is taken, to taken, or to abort (NoQuota, NoFrame)
abbrev pub TouchChangedRow : Pool → (killed : Bool) → Changed → Turn TouchPhase → Pool → Type 0
TouchChangedRow s killed p turn new =
    MatchBool killed
    (Goes (at.Abort (record { touch = p.touch; pending = p.pending; answer = answer.Killed })) s turn new)
    (TakeRow s p.pending.missing (λ a. at.Abort (record { touch = p.touch; pending = p.pending; answer = a }))
    (λ x. at.Taken (record { touch = p.touch; pending = p.pending; held = x })) turn new)

-- the change is aborted, to leave
abbrev pub TouchAbortRow : Pool → Abort → Turn TouchPhase → Pool → Type 0
TouchAbortRow s p turn new = Goes (at.Leave (record { touch = p.touch; answer = p.answer })) (aborted s p.touch.file) turn new

-- commit; added less than missing: to settle. Else to committed
abbrev pub TouchTakenRow : Pool → Taken → Turn TouchPhase → Pool → Type 0
TouchTakenRow s p turn new =
    CommitRow s p.touch.file p.pending (at.Settle (record { touch = p.touch; held = p.held }))
    (at.Committed (record { touch = p.touch; held = p.held })) turn new

-- resv and used minus 1, to committed
abbrev pub TouchSettleRow : Pool → Settle → Turn TouchPhase → Pool → Type 0
TouchSettleRow s p turn new = SettleOneRow s (at.Committed (record { touch = p.touch; held = p.held })) turn new

-- index at or above the size: to restore (Beyond). Denied: to restore (NoMemory). Else the frame is placed, to found
abbrev pub TouchCommittedRow : Pool → (grant : Bool) → Committed → Turn TouchPhase → Pool → Type 0
TouchCommittedRow s grant p turn new =
    MatchBool (nat_le (s.size p.touch.file) p.touch.index)
    (Goes (at.Restore (record { touch = p.touch; held = p.held; answer = answer.Beyond })) s turn new)
    (MatchBool grant
    (Goes (at.Found (record { touch = p.touch })) (placed s p.touch.file p.touch.index p.held) turn new)
    (Goes (at.Restore (record { touch = p.touch; held = p.held; answer = answer.NoMemory })) s turn new))

-- the frame is freed, resv plus 1, the map's entry stays, to leave
abbrev pub TouchRestoreRow : Pool → Restore → Turn TouchPhase → Pool → Type 0
TouchRestoreRow s p turn new = Goes (at.Leave (record { touch = p.touch; answer = p.answer })) (restored s p.held) turn new

-- index at or above the size: to leave (Beyond). Denied: to leave (NoMemory). Else the entry is written and
-- the word read or written, to leave
abbrev pub TouchFoundRow : Pool → (task : ℕ) → (grant : Bool) → Found → Turn TouchPhase → Pool → Type 0
TouchFoundRow s t grant p turn new =
    MatchBool (nat_le (s.size p.touch.file) p.touch.index)
    (Goes (at.Leave (record { touch = p.touch; answer = answer.Beyond })) s turn new)
    (MatchBool grant
    ((x : ℕ) × (word : ℕ) × (s.pages p.touch.file p.touch.index ≡ Some x) × (s.frame x ≡ Placed word)
    × Goes (at.Leave (record { touch = p.touch; answer = answer_of p.touch.access word }))
    (record s { entries = put2 s.entries t p.touch.vpn (Some x); frame = frame_after p.touch.access s.frame x }) turn new)
    (Goes (at.Leave (record { touch = p.touch; answer = answer.NoMemory })) s turn new))

-- the slot is left
abbrev pub TouchLeaveRow : Pool → Leave → Turn TouchPhase → Pool → Type 0
TouchLeaveRow s p turn new = Ends p.answer (unslotted s p.touch.file p.touch.index) turn new

-- what one step of a touch may do
abbrev pub TouchRow : Pool → (task : ℕ) → (killed grant : Bool) → TouchPhase → Turn TouchPhase → Pool → Type 0
TouchRow s t killed grant (at.Look p) turn new = TouchLookRow s t p turn new
TouchRow s t killed grant (at.Want p) turn new = TouchWantRow s t killed p turn new
TouchRow s t killed grant (at.Locked p) turn new = TouchLockedRow s p turn new
TouchRow s t killed grant (at.Missing p) turn new = TouchMissingRow s grant p turn new
TouchRow s t killed grant (at.Changed p) turn new = TouchChangedRow s killed p turn new
TouchRow s t killed grant (at.Abort p) turn new = TouchAbortRow s p turn new
TouchRow s t killed grant (at.Taken p) turn new = TouchTakenRow s p turn new
TouchRow s t killed grant (at.Settle p) turn new = TouchSettleRow s p turn new
TouchRow s t killed grant (at.Committed p) turn new = TouchCommittedRow s grant p turn new
TouchRow s t killed grant (at.Restore p) turn new = TouchRestoreRow s p turn new
TouchRow s t killed grant (at.Found p) turn new = TouchFoundRow s t grant p turn new
TouchRow s t killed grant (at.Leave p) turn new = TouchLeaveRow s p turn new
