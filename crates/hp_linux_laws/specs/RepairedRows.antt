-- Linux's rows with one repair, by which what a change of the reserve map returns is accounted once; and with a second one, by which a
-- truncation takes each index out of the map under its slot.
use Rattle.std.specs.Prelude.{◌≡◌, ℕ, ◌+◌, ◌-◌, ◌<◌, ◌≤◌, ◌⊎◌, Bool, false, true, MatchBool, is_some, nat_lt}
use Rattle.hp_base.specs.Indices.{count_within, cut_tail, missing}
use Rattle.hp_base.specs.Numbers.{bit, put, put2}
use Rattle.hp_frames.specs.declared.frame.FrameState.TheVariants as frame
use Rattle.hp_region.specs.Change.{Change}
use Rattle.hp_machine.specs.State.{Pool}
use Rattle.hp_machine.specs.Parts.{Goes, committed, unslotted}
use Rattle.hp_machine.specs.Events.{CallRows, TurnRow}
use Rattle.hp_machine.specs.TouchRows.{TouchRestoreRow}
use Rattle.hp_machine.specs.AllocRows.{AllocRestoreRow}
use Rattle.hp_machine.specs.PunchRows.{PunchStartRow, PunchWantRow, PunchLockedRow, PunchUnmapRow, PunchEvictRow}
use Rattle.hp_machine.specs.PunchRows.{PunchDeleteRow, PunchFreeRow, PunchUnslotRow, PunchLeaveRow}
use Rattle.hp_machine.specs.UnmapRows.{UnmapRow}
use Rattle.hp_machine.specs.ExitRows.{ExitRow}
use Rattle.hp_machine.specs.TruncateRows.{TruncateStartRow, TruncateWantRow, TruncateUnmapRow, TruncateEvictRow, TruncateLeaveRow}
use Rattle.hp_machine.specs.declared.map.Accounted.{Accounted}
use Rattle.hp_machine.specs.declared.punch.Delete.{Delete}
use Rattle.hp_machine.specs.declared.punch.Free as punch_free
use Rattle.hp_machine.specs.declared.truncate.Truncation.{Truncation}
use Rattle.hp_machine.specs.declared.truncate.Locked.{Locked}
use Rattle.hp_machine.specs.declared.truncate.Free.{Free}
use Rattle.hp_machine.specs.declared.truncate.Tail.{Tail}
use Rattle.hp_machine.specs.declared.touch.TouchPhase.{TouchPhase}
use Rattle.hp_machine.specs.declared.touch.TouchPhase.TheVariants as touch
use Rattle.hp_machine.specs.declared.map.MapPhase.{MapPhase}
use Rattle.hp_machine.specs.declared.map.MapPhase.TheVariants as map
use Rattle.hp_machine.specs.declared.alloc.AllocPhase.{AllocPhase}
use Rattle.hp_machine.specs.declared.alloc.AllocPhase.TheVariants as alloc
use Rattle.hp_machine.specs.declared.punch.PunchPhase.{PunchPhase}
use Rattle.hp_machine.specs.declared.punch.PunchPhase.TheVariants as punch
use Rattle.hp_machine.specs.declared.truncate.TruncatePhase.{TruncatePhase}
use Rattle.hp_machine.specs.declared.truncate.TruncatePhase.TheVariants as truncate
use Rattle.hp_machine.specs.declared.call.Call.TheVariants as call
use Rattle.hp_machine.specs.declared.call.Turn.{Turn}
use Rattle.hp_linux.specs.Rows.{UntalliedFreeRow}
use Rattle.hp_linux_laws.specs.MayRows.{MayTouch, MayMap, MayAlloc, MayTruncate, PunchPassesRow}

-- a commit that adds more than its change missed raises the count by the difference
abbrev pub AccountedCommitRow : {P : Type 0} → Pool → (file : ℕ) → Change → (settle next : P) → Turn P → Pool → Type 0
AccountedCommitRow s f change settle next turn new =
    let added = missing (s.reserved f) change.from change.to in
    MatchBool (nat_lt added change.missing)
    (Goes settle (committed s f change) turn new)
    (Goes next (record (committed s f change) { resv = s.resv + (added - change.missing) }) turn new)

-- so does a touch's; one that gives its frame back leaves its index in the map
abbrev pub RepairedTouch : Pool → (task : ℕ) → (killed grant : Bool) → TouchPhase → Turn TouchPhase → Pool → Type 0
RepairedTouch s t killed grant (touch.Look p) turn new = MayTouch s t killed grant (touch.Look p) turn new
RepairedTouch s t killed grant (touch.Want p) turn new = MayTouch s t killed grant (touch.Want p) turn new
RepairedTouch s t killed grant (touch.Locked p) turn new = MayTouch s t killed grant (touch.Locked p) turn new
RepairedTouch s t killed grant (touch.Missing p) turn new = MayTouch s t killed grant (touch.Missing p) turn new
RepairedTouch s t killed grant (touch.Changed p) turn new = MayTouch s t killed grant (touch.Changed p) turn new
RepairedTouch s t killed grant (touch.Abort p) turn new = MayTouch s t killed grant (touch.Abort p) turn new
RepairedTouch s t killed grant (touch.Taken p) turn new =
    AccountedCommitRow s p.touch.file p.pending (touch.Settle (record { touch = p.touch; held = p.held }))
    (touch.Committed (record { touch = p.touch; held = p.held })) turn new
RepairedTouch s t killed grant (touch.Settle p) turn new = MayTouch s t killed grant (touch.Settle p) turn new
RepairedTouch s t killed grant (touch.Committed p) turn new = MayTouch s t killed grant (touch.Committed p) turn new
RepairedTouch s t killed grant (touch.Restore p) turn new = TouchRestoreRow s p turn new
RepairedTouch s t killed grant (touch.Found p) turn new = MayTouch s t killed grant (touch.Found p) turn new
RepairedTouch s t killed grant (touch.Leave p) turn new = MayTouch s t killed grant (touch.Leave p) turn new

-- and an allocation
abbrev pub RepairedAlloc : Pool → (task : ℕ) → (killed grant : Bool) → AllocPhase → Turn AllocPhase → Pool → Type 0
RepairedAlloc s t killed grant (alloc.Start p) turn new = MayAlloc s t killed grant (alloc.Start p) turn new
RepairedAlloc s t killed grant (alloc.Head p) turn new = MayAlloc s t killed grant (alloc.Head p) turn new
RepairedAlloc s t killed grant (alloc.Want p) turn new = MayAlloc s t killed grant (alloc.Want p) turn new
RepairedAlloc s t killed grant (alloc.Locked p) turn new = MayAlloc s t killed grant (alloc.Locked p) turn new
RepairedAlloc s t killed grant (alloc.Missing p) turn new = MayAlloc s t killed grant (alloc.Missing p) turn new
RepairedAlloc s t killed grant (alloc.Changed p) turn new = MayAlloc s t killed grant (alloc.Changed p) turn new
RepairedAlloc s t killed grant (alloc.Abort p) turn new = MayAlloc s t killed grant (alloc.Abort p) turn new
RepairedAlloc s t killed grant (alloc.Taken p) turn new =
    AccountedCommitRow s p.allocation.file p.pending
    (alloc.Settle (record { allocation = p.allocation; index = p.index; held = p.held }))
    (alloc.Committed (record { allocation = p.allocation; index = p.index; held = p.held })) turn new
RepairedAlloc s t killed grant (alloc.Settle p) turn new = MayAlloc s t killed grant (alloc.Settle p) turn new
RepairedAlloc s t killed grant (alloc.Committed p) turn new = MayAlloc s t killed grant (alloc.Committed p) turn new
RepairedAlloc s t killed grant (alloc.Restore p) turn new = AllocRestoreRow s p turn new
RepairedAlloc s t killed grant (alloc.Unslot p) turn new = MayAlloc s t killed grant (alloc.Unslot p) turn new
RepairedAlloc s t killed grant (alloc.Extend p) turn new = MayAlloc s t killed grant (alloc.Extend p) turn new
RepairedAlloc s t killed grant (alloc.Leave p) turn new = MayAlloc s t killed grant (alloc.Leave p) turn new

-- a map's commit does
abbrev pub AccountedMapRow : Pool → Accounted → Turn MapPhase → Pool → Type 0
AccountedMapRow s p turn new =
    let added = missing (s.reserved p.map.file) p.pending.from p.pending.to in
    AccountedCommitRow s p.map.file p.pending
    (map.Settle (record { map = p.map; base = p.base; excess = p.pending.missing - added }))
    (map.Enter (record { map = p.map; base = p.base })) turn new

abbrev pub RepairedMap : Pool → (task : ℕ) → (killed grant : Bool) → MapPhase → Turn MapPhase → Pool → Type 0
RepairedMap s t killed grant (map.Start p) turn new = MayMap s t killed grant (map.Start p) turn new
RepairedMap s t killed grant (map.Room p) turn new = MayMap s t killed grant (map.Room p) turn new
RepairedMap s t killed grant (map.Missing p) turn new = MayMap s t killed grant (map.Missing p) turn new
RepairedMap s t killed grant (map.Changed p) turn new = MayMap s t killed grant (map.Changed p) turn new
RepairedMap s t killed grant (map.Abort p) turn new = MayMap s t killed grant (map.Abort p) turn new
RepairedMap s t killed grant (map.Accounted p) turn new = AccountedMapRow s p turn new
RepairedMap s t killed grant (map.Settle p) turn new = MayMap s t killed grant (map.Settle p) turn new
RepairedMap s t killed grant (map.Enter p) turn new = MayMap s t killed grant (map.Enter p) turn new
RepairedMap s t killed grant (map.Leave p) turn new = MayMap s t killed grant (map.Leave p) turn new

-- a punch whose page's index isn't in the map raises the count by one, whatever there is
abbrev pub AccountedDeleteRow : Pool → (grant : Bool) → Delete → Turn PunchPhase → Pool → Type 0
AccountedDeleteRow s grant p turn new =
    let denied = punch.Free (record { hole = p.hole; index = p.index; held = p.held; denied = true }) in
    MatchBool (s.reserved p.hole.file p.index)
    (PunchDeleteRow s grant p turn new ⊎ Goes denied s turn new)
    (Goes (punch.Free (record { hole = p.hole; index = p.index; held = p.held; denied = false }))
    (record s { resv = s.resv + 1 }) turn new)

-- its frame may become free later, and where its index stays the count is raised then, too
abbrev pub AccountedLateFreeRow : Pool → punch_free.Free → Turn PunchPhase → Pool → Type 0
AccountedLateFreeRow s p turn new =
    (used : ℕ)
    × Goes (punch.Unslot (record { hole = p.hole; index = p.index })) (record s { resv = s.resv + bit p.denied; used = used }) turn new

abbrev pub RepairedPunch : Pool → (task : ℕ) → (killed grant : Bool) → PunchPhase → Turn PunchPhase → Pool → Type 0
RepairedPunch s t killed grant (punch.Start p) turn new = PunchStartRow s t killed p turn new
RepairedPunch s t killed grant (punch.Want p) turn new = PunchWantRow s t p turn new ⊎ PunchPassesRow s p turn new
RepairedPunch s t killed grant (punch.Locked p) turn new = PunchLockedRow s p turn new
RepairedPunch s t killed grant (punch.Unmap p) turn new = PunchUnmapRow s p turn new
RepairedPunch s t killed grant (punch.Evict p) turn new = PunchEvictRow s p turn new
RepairedPunch s t killed grant (punch.Delete p) turn new = AccountedDeleteRow s grant p turn new
RepairedPunch s t killed grant (punch.Free p) turn new =
    PunchFreeRow s p turn new ⊎ (UntalliedFreeRow s p turn new ⊎ AccountedLateFreeRow s p turn new)
RepairedPunch s t killed grant (punch.Unslot p) turn new = PunchUnslotRow s p turn new
RepairedPunch s t killed grant (punch.Leave p) turn new = PunchLeaveRow s p turn new

-- a truncation that took away more pages than it takes indices out of the map raises the count by the difference
abbrev pub AccountedTailRow : Pool → Tail → Turn TruncatePhase → Pool → Type 0
AccountedTailRow s p turn new =
    let f = p.truncation.file in
    let removed = count_within (s.reserved f) p.truncation.new s.geometry.limit in
    Goes (truncate.Settle (record { truncation = p.truncation; excess = removed - p.evicted; evicted = p.evicted }))
    (record s {
      reserved = put s.reserved f (cut_tail (s.reserved f) p.truncation.new);
      resv = s.resv + (p.evicted - removed);
    }) turn new

abbrev pub AccountedTruncate : Pool → (task : ℕ) → (killed grant : Bool) → TruncatePhase → Turn TruncatePhase → Pool → Type 0
AccountedTruncate s t killed grant (truncate.Start p) turn new = MayTruncate s t killed grant (truncate.Start p) turn new
AccountedTruncate s t killed grant (truncate.Size p) turn new = MayTruncate s t killed grant (truncate.Size p) turn new
AccountedTruncate s t killed grant (truncate.Want p) turn new = MayTruncate s t killed grant (truncate.Want p) turn new
AccountedTruncate s t killed grant (truncate.Locked p) turn new = MayTruncate s t killed grant (truncate.Locked p) turn new
AccountedTruncate s t killed grant (truncate.Unmap p) turn new = MayTruncate s t killed grant (truncate.Unmap p) turn new
AccountedTruncate s t killed grant (truncate.Evict p) turn new = MayTruncate s t killed grant (truncate.Evict p) turn new
AccountedTruncate s t killed grant (truncate.Free p) turn new = MayTruncate s t killed grant (truncate.Free p) turn new
AccountedTruncate s t killed grant (truncate.Unslot p) turn new = MayTruncate s t killed grant (truncate.Unslot p) turn new
AccountedTruncate s t killed grant (truncate.Tail p) turn new = AccountedTailRow s p turn new
AccountedTruncate s t killed grant (truncate.Settle p) turn new = MayTruncate s t killed grant (truncate.Settle p) turn new
AccountedTruncate s t killed grant (truncate.Leave p) turn new = MayTruncate s t killed grant (truncate.Leave p) turn new

-- one step of a call by the first repair alone
unfoldable pub AccountedRow : CallRows
AccountedRow s t killed grant (call.Touch p) = TurnRow call.Touch (RepairedTouch s t killed grant p)
AccountedRow s t killed grant (call.Map p) = TurnRow call.Map (RepairedMap s t killed grant p)
AccountedRow s t killed grant (call.Alloc p) = TurnRow call.Alloc (RepairedAlloc s t killed grant p)
AccountedRow s t killed grant (call.Punch p) = TurnRow call.Punch (RepairedPunch s t killed grant p)
AccountedRow s t killed grant (call.Truncate p) = TurnRow call.Truncate (AccountedTruncate s t killed grant p)
AccountedRow s t killed grant (call.Unmap p) = TurnRow call.Unmap (UnmapRow s t killed grant p)
AccountedRow s t killed grant (call.Exit p) = TurnRow call.Exit (ExitRow s t killed grant p)

-- ---- the second repair

-- a truncation goes on to any index from the new size on; where none of these is reserved any more it may be over
abbrev pub NextIndexRow : Pool → Truncation → (after : Pool) → Turn TruncatePhase → Pool → Type 0
NextIndexRow s p after turn new =
    ((i : ℕ) × (p.new ≤ i) × (i < s.geometry.limit)
    × Goes (truncate.Want (record { truncation = p; index = i; evicted = 0 })) after turn new)
    ⊎ (((j : ℕ) → p.new ≤ j → j < s.geometry.limit → s.reserved p.file j ≡ false)
    × Goes (truncate.Leave (record { truncation = p })) after turn new)

-- an index without a page is taken out of the map under its slot, and was counted if it was in it; or that is refused memory
abbrev pub TakesOutRow : Pool → Locked → Turn TruncatePhase → Pool → Type 0
TakesOutRow s p turn new =
    let f = p.truncation.file in
    let passed = truncate.Unslot (record { truncation = p.truncation; index = p.index; evicted = p.evicted }) in
    MatchBool (is_some (s.pages f p.index))
    (Goes (truncate.Unmap (record { truncation = p.truncation; index = p.index; evicted = p.evicted; task = 1 })) s turn new)
    (((bit (s.reserved f p.index) ≤ s.resv)
    × Goes passed (record s { reserved = put2 s.reserved f p.index false; resv = s.resv - bit (s.reserved f p.index) }) turn new)
    ⊎ Goes passed s turn new)

-- so is that of a page which it took away: where it wasn't in the map, or stays there, the count is raised by one
abbrev pub PagedRow : Pool → Free → (after : Pool) → Turn TruncatePhase → Pool → Type 0
PagedRow s p after turn new =
    let f = p.truncation.file in
    let passed = truncate.Unslot (record { truncation = p.truncation; index = p.index; evicted = p.evicted - 1 }) in
    Goes passed (record after {
      reserved = put2 s.reserved f p.index false;
      resv = s.resv + (1 - bit (s.reserved f p.index));
    }) turn new
    ⊎ Goes passed (record after { resv = s.resv + 1 }) turn new

-- and its frame becomes free with it, or later
abbrev pub TakesOutPagedRow : Pool → Free → Turn TruncatePhase → Pool → Type 0
TakesOutPagedRow s p turn new =
    PagedRow s p (record s { frame = put s.frame p.held frame.Free }) turn new ⊎ PagedRow s p s turn new

-- what is left is the slot, and then the lock: it never comes to take a tail out at once
abbrev pub RepairedTruncate : Pool → (task : ℕ) → (killed grant : Bool) → TruncatePhase → Turn TruncatePhase → Pool → Type 0
RepairedTruncate s t killed grant (truncate.Start p) turn new = TruncateStartRow s t killed p turn new
RepairedTruncate s t killed grant (truncate.Size p) turn new =
    NextIndexRow s p.truncation (record s { size = put s.size p.truncation.file p.truncation.new }) turn new
RepairedTruncate s t killed grant (truncate.Want p) turn new = TruncateWantRow s t p turn new
RepairedTruncate s t killed grant (truncate.Locked p) turn new = TakesOutRow s p turn new
RepairedTruncate s t killed grant (truncate.Unmap p) turn new = TruncateUnmapRow s p turn new
RepairedTruncate s t killed grant (truncate.Evict p) turn new = TruncateEvictRow s p turn new
RepairedTruncate s t killed grant (truncate.Free p) turn new = TakesOutPagedRow s p turn new
RepairedTruncate s t killed grant (truncate.Unslot p) turn new =
    NextIndexRow s p.truncation (unslotted s p.truncation.file p.index) turn new
RepairedTruncate s t killed grant (truncate.Tail p) turn new = ⊥
RepairedTruncate s t killed grant (truncate.Settle p) turn new = ⊥
RepairedTruncate s t killed grant (truncate.Leave p) turn new = TruncateLeaveRow s p turn new

-- one step of a call by both
unfoldable pub RepairedRow : CallRows
RepairedRow s t killed grant (call.Touch p) = TurnRow call.Touch (RepairedTouch s t killed grant p)
RepairedRow s t killed grant (call.Map p) = TurnRow call.Map (RepairedMap s t killed grant p)
RepairedRow s t killed grant (call.Alloc p) = TurnRow call.Alloc (RepairedAlloc s t killed grant p)
RepairedRow s t killed grant (call.Punch p) = TurnRow call.Punch (RepairedPunch s t killed grant p)
RepairedRow s t killed grant (call.Truncate p) = TurnRow call.Truncate (RepairedTruncate s t killed grant p)
RepairedRow s t killed grant (call.Unmap p) = TurnRow call.Unmap (UnmapRow s t killed grant p)
RepairedRow s t killed grant (call.Exit p) = TurnRow call.Exit (ExitRow s t killed grant p)
