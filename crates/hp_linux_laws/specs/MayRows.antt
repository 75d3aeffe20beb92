-- What a step of Linux's may do: what the machine's may, and in some phases something else. Rules B, D, F, N, P, S, T and U of
-- docs/LINUX.md are left open: which indices a removal visits (a punch upwards, a truncation in any order), which memory there is,
-- whether the size is looked at before the page, and later again, whether a raise of the count is made, what a page that is backed out
-- leaves in the map, and when the frame of a removed page becomes free.
use Rattle.std.specs.Prelude.{◌≡◌, ℕ, ◌+◌, ◌-◌, ◌<◌, ◌≤◌, ◌⊎◌, Bool, false, true, Some, MatchBool, nat_lt}
use Rattle.hp_base.specs.Indices.{add_range, count_within, cut_tail}
use Rattle.hp_base.specs.Numbers.{bit, put, put2}
use Rattle.hp_base.specs.declared.answer.Answer.TheVariants as answer
use Rattle.hp_frames.specs.declared.frame.FrameState.TheVariants as frame
use Rattle.hp_machine.specs.State.{Pool}
use Rattle.hp_machine.specs.Parts.{Goes, restored, unslotted}
use Rattle.hp_machine.specs.Events.{CallRows, TurnRow}
use Rattle.hp_machine.specs.TouchRows.{TouchLookRow, TouchWantRow, TouchLockedRow, TouchMissingRow, TouchChangedRow, TouchAbortRow}
use Rattle.hp_machine.specs.TouchRows.{TouchTakenRow, TouchCommittedRow, TouchFoundRow, TouchLeaveRow}
use Rattle.hp_machine.specs.MapRows.{MapStartRow, MapRoomRow, MapMissingRow, MapChangedRow, MapAbortRow, MapAccountedRow, MapEnterRow}
use Rattle.hp_machine.specs.MapRows.{MapLeaveRow}
use Rattle.hp_machine.specs.AllocRows.{AllocStartRow, AllocHeadRow, AllocWantRow, AllocLockedRow, AllocMissingRow, AllocChangedRow}
use Rattle.hp_machine.specs.AllocRows.{AllocAbortRow, AllocTakenRow, AllocCommittedRow, AllocRestoreRow, AllocUnslotRow, AllocExtendRow}
use Rattle.hp_machine.specs.AllocRows.{AllocLeaveRow}
use Rattle.hp_machine.specs.PunchRows.{PunchStartRow, PunchWantRow, PunchLockedRow, PunchUnmapRow, PunchEvictRow}
use Rattle.hp_machine.specs.PunchRows.{PunchDeleteRow, PunchFreeRow, PunchUnslotRow, PunchLeaveRow}
use Rattle.hp_machine.specs.TruncateRows.{TruncateStartRow, TruncateSizeRow, TruncateWantRow, TruncateLockedRow, TruncateUnmapRow}
use Rattle.hp_machine.specs.TruncateRows.{TruncateEvictRow, TruncateFreeRow, TruncateUnslotRow, TruncateTailRow, TruncateLeaveRow}
use Rattle.hp_machine.specs.UnmapRows.{UnmapRow}
use Rattle.hp_machine.specs.ExitRows.{ExitRow}
use Rattle.hp_machine.specs.declared.alloc.Restore.{Restore}
use Rattle.hp_machine.specs.declared.punch.Free as punch_free
use Rattle.hp_machine.specs.declared.punch.Want as punch_want
use Rattle.hp_machine.specs.declared.map.Settle as map_settle
use Rattle.hp_machine.specs.declared.touch.Restore as touch_restore
use Rattle.hp_machine.specs.declared.truncate.Settle as truncate_settle
use Rattle.hp_machine.specs.declared.truncate.Tail.{Tail}
use Rattle.hp_machine.specs.declared.truncate.Truncation.{Truncation}
use Rattle.hp_machine.specs.declared.truncate.Want as truncate_want
use Rattle.hp_machine.specs.declared.touch.TouchPhase.{TouchPhase}
use Rattle.hp_machine.specs.declared.touch.TouchPhase.TheVariants as touch
use Rattle.hp_machine.specs.declared.map.MapPhase.{MapPhase}
use Rattle.hp_machine.specs.declared.map.MapPhase.TheVariants as map
use Rattle.hp_machine.specs.declared.alloc.AllocPhase.{AllocPhase}
use Rattle.hp_machine.specs.declared.alloc.AllocPhase.TheVariants as alloc
use Rattle.hp_machine.specs.declared.punch.PunchPhase.{PunchPhase}
use Rattle.hp_machine.specs.declared.punch.PunchPhase.TheVariants as punch
use Rattle.hp_machine.specs.declared.truncate.TruncatePhase.{TruncatePhase}
use Rattle.hp_machine.specs.declared.truncate.TruncatePhase.TheVariants as truncate
use Rattle.hp_machine.specs.declared.call.Call.TheVariants as call
use Rattle.hp_machine.specs.declared.call.Turn.{Turn}
use Rattle.hp_linux.specs.Rows.{PageFirstRow, UnsizedCommittedRow, UnsizedFoundRow, RaisingDeleteRow, UntalliedFreeRow, BacksOutRow}
use Rattle.hp_linux.specs.Rows.{LateTruncateFreeRow}

-- what was accounted for one index and not added leaves the counts; the used count, which only a quota reads, may be any
abbrev pub UntalliedSettleOneRow : {P : Type 0} → Pool → (next : P) → Turn P → Pool → Type 0
UntalliedSettleOneRow s next turn new = (1 ≤ s.resv) × Goes next (record s { resv = s.resv - 1; used = s.used - 1 }) turn new

-- a touch that gives its frame back with its reservation enters its index in the map again
abbrev pub EntersAgainRow : Pool → touch_restore.Restore → Turn TouchPhase → Pool → Type 0
EntersAgainRow s p turn new =
    let f = p.touch.file in
    Goes (touch.Leave (record { touch = p.touch; answer = p.answer }))
    (record (restored s p.held) { reserved = put s.reserved f (add_range (s.reserved f) p.touch.index (p.touch.index + 1)) }) turn new

-- a touch looks for the page first, or at the size first; it is refused memory, and finds no frame, whatever there is; it may leave out
-- its later looks at the size; and where it gives its frame back it may take its index out of the map, or enter it again
abbrev pub MayTouch : Pool → (task : ℕ) → (killed grant : Bool) → TouchPhase → Turn TouchPhase → Pool → Type 0
MayTouch s t killed grant (touch.Look p) turn new = TouchLookRow s t p turn new
MayTouch s t killed grant (touch.Want p) turn new = TouchWantRow s t killed p turn new
MayTouch s t killed grant (touch.Locked p) turn new = TouchLockedRow s p turn new ⊎ PageFirstRow s p turn new
MayTouch s t killed grant (touch.Missing p) turn new =
    TouchMissingRow s grant p turn new ⊎ Goes (touch.Leave (record { touch = p.touch; answer = answer.NoMemory })) s turn new
MayTouch s t killed grant (touch.Changed p) turn new =
    TouchChangedRow s killed p turn new
    ⊎ Goes (touch.Abort (record { touch = p.touch; pending = p.pending; answer = answer.NoFrame })) s turn new
MayTouch s t killed grant (touch.Abort p) turn new = TouchAbortRow s p turn new
MayTouch s t killed grant (touch.Taken p) turn new = TouchTakenRow s p turn new
MayTouch s t killed grant (touch.Settle p) turn new =
    UntalliedSettleOneRow s (touch.Committed (record { touch = p.touch; held = p.held })) turn new
MayTouch s t killed grant (touch.Committed p) turn new = TouchCommittedRow s grant p turn new ⊎ UnsizedCommittedRow s grant p turn new
MayTouch s t killed grant (touch.Restore p) turn new = BacksOutRow s p turn new ⊎ EntersAgainRow s p turn new
MayTouch s t killed grant (touch.Found p) turn new = TouchFoundRow s t grant p turn new ⊎ UnsizedFoundRow s t grant p turn new
MayTouch s t killed grant (touch.Leave p) turn new = TouchLeaveRow s p turn new

-- a map settles whatever the used count is
abbrev pub UntalliedMapSettleRow : Pool → map_settle.Settle → Turn MapPhase → Pool → Type 0
UntalliedMapSettleRow s p turn new =
    (p.excess ≤ s.resv) × Goes (map.Enter (record { map = p.map; base = p.base }))
    (record s { resv = s.resv - p.excess; used = s.used - p.excess }) turn new

-- it is refused memory, and finds too few frames, whatever there is
abbrev pub MayMap : Pool → (task : ℕ) → (killed grant : Bool) → MapPhase → Turn MapPhase → Pool → Type 0
MayMap s t killed grant (map.Start p) turn new = MapStartRow s t killed p turn new
MayMap s t killed grant (map.Room p) turn new = MapRoomRow s t grant p turn new
MayMap s t killed grant (map.Missing p) turn new =
    MapMissingRow s grant p turn new ⊎ Goes (map.Leave (record { map = p.map; answer = answer.NoMemory })) s turn new
MayMap s t killed grant (map.Changed p) turn new =
    MapChangedRow s killed p turn new
    ⊎ Goes (map.Abort (record { map = p.map; pending = p.pending; answer = answer.NoFrame })) s turn new
MayMap s t killed grant (map.Abort p) turn new = MapAbortRow s p turn new
MayMap s t killed grant (map.Accounted p) turn new = MapAccountedRow s p turn new
MayMap s t killed grant (map.Settle p) turn new = UntalliedMapSettleRow s p turn new
MayMap s t killed grant (map.Enter p) turn new = MapEnterRow s t p turn new
MayMap s t killed grant (map.Leave p) turn new = MapLeaveRow s p turn new

-- an allocation that gives its frame back takes its index out of the map
abbrev pub AllocBacksOutRow : Pool → Restore → Turn AllocPhase → Pool → Type 0
AllocBacksOutRow s p turn new =
    Goes (alloc.Unslot (record { allocation = p.allocation; index = p.index; answer = Some p.answer }))
    (record s {
      frame = put s.frame p.held frame.Free;
      reserved = put2 s.reserved p.allocation.file p.index false;
      used = s.used - 1;
    }) turn new

-- or enters it again
abbrev pub AllocEntersAgainRow : Pool → Restore → Turn AllocPhase → Pool → Type 0
AllocEntersAgainRow s p turn new =
    let f = p.allocation.file in
    Goes (alloc.Unslot (record { allocation = p.allocation; index = p.index; answer = Some p.answer }))
    (record (restored s p.held) { reserved = put s.reserved f (add_range (s.reserved f) p.index (p.index + 1)) }) turn new

-- it is refused memory, and finds no frame, whatever there is, and may back out so
abbrev pub MayAlloc : Pool → (task : ℕ) → (killed grant : Bool) → AllocPhase → Turn AllocPhase → Pool → Type 0
MayAlloc s t killed grant (alloc.Start p) turn new = AllocStartRow s t killed p turn new
MayAlloc s t killed grant (alloc.Head p) turn new = AllocHeadRow s killed p turn new
MayAlloc s t killed grant (alloc.Want p) turn new = AllocWantRow s t killed p turn new
MayAlloc s t killed grant (alloc.Locked p) turn new = AllocLockedRow s p turn new
MayAlloc s t killed grant (alloc.Missing p) turn new =
    AllocMissingRow s grant p turn new
    ⊎ Goes (alloc.Unslot (record { allocation = p.allocation; index = p.index; answer = Some answer.NoMemory })) s turn new
MayAlloc s t killed grant (alloc.Changed p) turn new =
    AllocChangedRow s killed p turn new
    ⊎ Goes (alloc.Abort (record { allocation = p.allocation; index = p.index; pending = p.pending; answer = answer.NoFrame })) s turn new
MayAlloc s t killed grant (alloc.Abort p) turn new = AllocAbortRow s p turn new
MayAlloc s t killed grant (alloc.Taken p) turn new = AllocTakenRow s p turn new
MayAlloc s t killed grant (alloc.Settle p) turn new =
    UntalliedSettleOneRow s (alloc.Committed (record { allocation = p.allocation; index = p.index; held = p.held })) turn new
MayAlloc s t killed grant (alloc.Committed p) turn new = AllocCommittedRow s grant p turn new
MayAlloc s t killed grant (alloc.Restore p) turn new =
    AllocRestoreRow s p turn new ⊎ (AllocBacksOutRow s p turn new ⊎ AllocEntersAgainRow s p turn new)
MayAlloc s t killed grant (alloc.Unslot p) turn new = AllocUnslotRow s p turn new
MayAlloc s t killed grant (alloc.Extend p) turn new = AllocExtendRow s p turn new
MayAlloc s t killed grant (alloc.Leave p) turn new = AllocLeaveRow s p turn new

-- The frame of a page that a punch took away becomes free later. Where its index stays in the map the count is raised, or that is refused.
-- (What is used is left open: only a quota reads it.)
abbrev pub LateFreeRow : Pool → punch_free.Free → Turn PunchPhase → Pool → Type 0
LateFreeRow s p turn new =
    (raised used : ℕ) × (raised ≤ bit p.denied)
    × Goes (punch.Unslot (record { hole = p.hole; index = p.index })) (record s { resv = s.resv + raised; used = used }) turn new

-- the frame of a page whose index stays in the map is freed, and the count isn't raised for it, for that is refused
-- (`hugetlb_fix_reserve_counts`)
abbrev pub RefusedFreeRow : Pool → punch_free.Free → Turn PunchPhase → Pool → Type 0
RefusedFreeRow s p turn new =
    (p.denied ≡ true)
    × Goes (punch.Unslot (record { hole = p.hole; index = p.index })) (record s { frame = put s.frame p.held frame.Free }) turn new

-- a punch passes an index without its slot
abbrev pub PunchPassesRow : Pool → punch_want.Want → Turn PunchPhase → Pool → Type 0
PunchPassesRow s p turn new =
    MatchBool (nat_lt (p.index + 1) (p.hole.from + p.hole.len))
    (Goes (punch.Want (record { hole = p.hole; index = p.index + 1 })) s turn new)
    (Goes (punch.Leave (record { hole = p.hole })) s turn new)

-- it passes any of its indices; its deletion is refused memory, whatever there is; and where its page's index isn't in the map any more,
-- it may raise the count, and may have that refused, as where its index stays; its frame may become free later
abbrev pub MayPunch : Pool → (task : ℕ) → (killed grant : Bool) → PunchPhase → Turn PunchPhase → Pool → Type 0
MayPunch s t killed grant (punch.Start p) turn new = PunchStartRow s t killed p turn new
MayPunch s t killed grant (punch.Want p) turn new = PunchWantRow s t p turn new ⊎ PunchPassesRow s p turn new
MayPunch s t killed grant (punch.Locked p) turn new = PunchLockedRow s p turn new
MayPunch s t killed grant (punch.Unmap p) turn new = PunchUnmapRow s p turn new
MayPunch s t killed grant (punch.Evict p) turn new = PunchEvictRow s p turn new
MayPunch s t killed grant (punch.Delete p) turn new =
    PunchDeleteRow s grant p turn new
    ⊎ (RaisingDeleteRow s grant p turn new
    ⊎ Goes (punch.Free (record { hole = p.hole; index = p.index; held = p.held; denied = true })) s turn new)
MayPunch s t killed grant (punch.Free p) turn new =
    PunchFreeRow s p turn new ⊎ (UntalliedFreeRow s p turn new ⊎ (LateFreeRow s p turn new ⊎ RefusedFreeRow s p turn new))
MayPunch s t killed grant (punch.Unslot p) turn new = PunchUnslotRow s p turn new
MayPunch s t killed grant (punch.Leave p) turn new = PunchLeaveRow s p turn new

-- a truncation passes an index without its slot
abbrev pub TruncatePassesRow : Pool → truncate_want.Want → Turn TruncatePhase → Pool → Type 0
TruncatePassesRow s p turn new =
    MatchBool (nat_lt p.truncation.new p.index)
    (Goes (truncate.Want (record { truncation = p.truncation; index = p.index - 1; evicted = p.evicted })) s turn new)
    (Goes (truncate.Tail (record { truncation = p.truncation; evicted = p.evicted })) s turn new)

-- It goes on to any index from the new size on (Linux: upwards; the machine: downwards), or to the tail.
abbrev pub TruncateGoesOnRow : Pool → Truncation → (evicted : ℕ) → (after : Pool) → Turn TruncatePhase → Pool → Type 0
TruncateGoesOnRow s p evicted after turn new =
    ((i : ℕ) × (p.new ≤ i) × (i < s.geometry.limit)
    × Goes (truncate.Want (record { truncation = p; index = i; evicted = evicted })) after turn new)
    ⊎ Goes (truncate.Tail (record { truncation = p; evicted = evicted })) after turn new

-- where it took away more pages than it takes indices out of the map, it may raise the count by any part of the difference
abbrev pub RaisingTailRow : Pool → Tail → Turn TruncatePhase → Pool → Type 0
RaisingTailRow s p turn new =
    let f = p.truncation.file in
    let removed = count_within (s.reserved f) p.truncation.new s.geometry.limit in
    (raised : ℕ) × (raised + removed ≤ p.evicted)
    × Goes (truncate.Settle (record { truncation = p.truncation; excess = removed - p.evicted; evicted = p.evicted }))
    (record s { reserved = put s.reserved f (cut_tail (s.reserved f) p.truncation.new); resv = s.resv + raised }) turn new

-- it settles whatever the used count is
abbrev pub UntalliedSettleRow : Pool → truncate_settle.Settle → Turn TruncatePhase → Pool → Type 0
UntalliedSettleRow s p turn new =
    (p.excess ≤ s.resv) × Goes (truncate.Leave (record { truncation = p.truncation }))
    (record s { resv = s.resv - p.excess; used = s.used - (p.excess + p.evicted) }) turn new

-- it visits any of its indices, in any order, and may raise the count so
abbrev pub MayTruncate : Pool → (task : ℕ) → (killed grant : Bool) → TruncatePhase → Turn TruncatePhase → Pool → Type 0
MayTruncate s t killed grant (truncate.Start p) turn new = TruncateStartRow s t killed p turn new
MayTruncate s t killed grant (truncate.Size p) turn new =
    TruncateSizeRow s p turn new
    ⊎ TruncateGoesOnRow s p.truncation 0 (record s { size = put s.size p.truncation.file p.truncation.new }) turn new
MayTruncate s t killed grant (truncate.Want p) turn new =
    TruncateWantRow s t p turn new ⊎ (TruncatePassesRow s p turn new ⊎ TruncateGoesOnRow s p.truncation p.evicted s turn new)
MayTruncate s t killed grant (truncate.Locked p) turn new = TruncateLockedRow s p turn new
MayTruncate s t killed grant (truncate.Unmap p) turn new = TruncateUnmapRow s p turn new
MayTruncate s t killed grant (truncate.Evict p) turn new = TruncateEvictRow s p turn new
MayTruncate s t killed grant (truncate.Free p) turn new = TruncateFreeRow s p turn new ⊎ LateTruncateFreeRow s p turn new
MayTruncate s t killed grant (truncate.Unslot p) turn new =
    TruncateUnslotRow s p turn new
    ⊎ TruncateGoesOnRow s p.truncation p.evicted (unslotted s p.truncation.file p.index) turn new
MayTruncate s t killed grant (truncate.Tail p) turn new = TruncateTailRow s p turn new ⊎ RaisingTailRow s p turn new
MayTruncate s t killed grant (truncate.Settle p) turn new = UntalliedSettleRow s p turn new
MayTruncate s t killed grant (truncate.Leave p) turn new = TruncateLeaveRow s p turn new

-- one step of a call
unfoldable pub MayRow : CallRows
MayRow s t killed grant (call.Touch p) = TurnRow call.Touch (MayTouch s t killed grant p)
MayRow s t killed grant (call.Map p) = TurnRow call.Map (MayMap s t killed grant p)
MayRow s t killed grant (call.Alloc p) = TurnRow call.Alloc (MayAlloc s t killed grant p)
MayRow s t killed grant (call.Punch p) = TurnRow call.Punch (MayPunch s t killed grant p)
MayRow s t killed grant (call.Truncate p) = TurnRow call.Truncate (MayTruncate s t killed grant p)
MayRow s t killed grant (call.Unmap p) = TurnRow call.Unmap (UnmapRow s t killed grant p)
MayRow s t killed grant (call.Exit p) = TurnRow call.Exit (ExitRow s t killed grant p)
