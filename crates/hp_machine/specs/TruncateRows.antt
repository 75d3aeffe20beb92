-- The rows of a truncation: what one step in each phase may do.
use Rattle.std.specs.Prelude.{ℕ, ◌+◌, ◌-◌, ◌≤◌, Bool, MatchBool, is_some, max, nat_lt}
use Rattle.hp_base.specs.Numbers.{put}
use Rattle.hp_base.specs.Indices.{count_within, cut_tail}
use Rattle.hp_base.specs.Pages.{IsPagesEnd}
use Rattle.hp_base.specs.declared.answer.Answer.TheVariants as answer
use Rattle.hp_frames.specs.declared.frame.FrameState.TheVariants as frame
use Rattle.hp_machine.specs.State.{Pool}
use Rattle.hp_machine.specs.Parts.{Goes, Ends, StartRow, unlocked, WantSlotRow, unslotted, UnmapIndexRow, EvictRow}
use Rattle.hp_machine.specs.declared.truncate.Start.{Start}
use Rattle.hp_machine.specs.declared.truncate.Size.{Size}
use Rattle.hp_machine.specs.declared.truncate.Want.{Want}
use Rattle.hp_machine.specs.declared.truncate.Locked.{Locked}
use Rattle.hp_machine.specs.declared.truncate.Unmap.{Unmap}
use Rattle.hp_machine.specs.declared.truncate.Evict.{Evict}
use Rattle.hp_machine.specs.declared.truncate.Free.{Free}
use Rattle.hp_machine.specs.declared.truncate.Unslot.{Unslot}
use Rattle.hp_machine.specs.declared.truncate.Tail.{Tail}
use Rattle.hp_machine.specs.declared.truncate.Settle.{Settle}
use Rattle.hp_machine.specs.declared.truncate.Leave.{Leave}
use Rattle.hp_machine.specs.declared.truncate.TruncatePhase.{TruncatePhase}
use Rattle.hp_machine.specs.declared.truncate.TruncatePhase.TheVariants as at
use Rattle.hp_machine.specs.declared.call.Turn.{Turn}

-- range check. Killed: Killed. File lock held: blocked. Else it is taken, to size
abbrev pub TruncateStartRow : Pool → (task : ℕ) → (killed : Bool) → Start → Turn TruncatePhase → Pool → Type 0
TruncateStartRow s t killed p turn new =
    StartRow s t killed p.truncation.file (nat_lt s.geometry.limit p.truncation.new) answer.Killed (at.Start p)
    (at.Size (record { truncation = p.truncation })) turn new

-- the top is the larger of size and the end of the pages; size becomes new. Top above new: to want with the
-- index below the top. Else to tail
abbrev pub TruncateSizeRow : Pool → Size → Turn TruncatePhase → Pool → Type 0
TruncateSizeRow s p turn new =
    let f = p.truncation.file in
    let after = record s { size = put s.size f p.truncation.new } in
    (pages_end : ℕ) × IsPagesEnd (s.pages f) pages_end
    × MatchBool (nat_lt p.truncation.new (max (s.size f) pages_end))
    (Goes (at.Want (record { truncation = p.truncation; index = max (s.size f) pages_end - 1; evicted = 0 })) after turn new)
    (Goes (at.Tail (record { truncation = p.truncation; evicted = 0 })) after turn new)

-- slot held: blocked. Else it is taken, to locked
abbrev pub TruncateWantRow : Pool → (task : ℕ) → Want → Turn TruncatePhase → Pool → Type 0
TruncateWantRow s t p turn new =
    WantSlotRow s t p.truncation.file p.index (at.Want p)
    (at.Locked (record { truncation = p.truncation; index = p.index; evicted = p.evicted })) turn new

-- no page cached: to unslot. Else to unmap, at task 1
abbrev pub TruncateLockedRow : Pool → Locked → Turn TruncatePhase → Pool → Type 0
TruncateLockedRow s p turn new =
    MatchBool (is_some (s.pages p.truncation.file p.index))
    (Goes (at.Unmap (record { truncation = p.truncation; index = p.index; evicted = p.evicted; task = 1 })) s turn new)
    (Goes (at.Unslot (record { truncation = p.truncation; index = p.index; evicted = p.evicted })) s turn new)

-- one task's entries of the index are cleared; more tasks: to unmap at the next. Else to evict
abbrev pub TruncateUnmapRow : Pool → Unmap → Turn TruncatePhase → Pool → Type 0
TruncateUnmapRow s p turn new =
    UnmapIndexRow s p.task p.truncation.file p.index
    (at.Unmap (record { truncation = p.truncation; index = p.index; evicted = p.evicted; task = p.task + 1 }))
    (at.Evict (record { truncation = p.truncation; index = p.index; evicted = p.evicted })) turn new

-- the page leaves the cache into the call's hand, to free
abbrev pub TruncateEvictRow : Pool → Evict → Turn TruncatePhase → Pool → Type 0
TruncateEvictRow s p turn new =
    EvictRow s p.truncation.file p.index
    (λ x. at.Free (record { truncation = p.truncation; index = p.index; evicted = p.evicted + 1; held = x })) turn new

-- the frame is freed, to unslot
abbrev pub TruncateFreeRow : Pool → Free → Turn TruncatePhase → Pool → Type 0
TruncateFreeRow s p turn new =
    Goes (at.Unslot (record { truncation = p.truncation; index = p.index; evicted = p.evicted }))
    (record s { frame = put s.frame p.held frame.Free }) turn new

-- the slot is left. Index above new: to want with the index below. Else to tail
abbrev pub TruncateUnslotRow : Pool → Unslot → Turn TruncatePhase → Pool → Type 0
TruncateUnslotRow s p turn new =
    let after = unslotted s p.truncation.file p.index in
    MatchBool (nat_lt p.truncation.new p.index)
    (Goes (at.Want (record { truncation = p.truncation; index = p.index - 1; evicted = p.evicted })) after turn new)
    (Goes (at.Tail (record { truncation = p.truncation; evicted = p.evicted })) after turn new)

-- the indices from new on leave the reserve map (Linux: `region_del` to the end), to settle
abbrev pub TruncateTailRow : Pool → Tail → Turn TruncatePhase → Pool → Type 0
TruncateTailRow s p turn new =
    let f = p.truncation.file in
    Goes (at.Settle (record {
      truncation = p.truncation;
      excess = count_within (s.reserved f) p.truncation.new s.geometry.limit - p.evicted;
      evicted = p.evicted;
    }))
    (record s { reserved = put s.reserved f (cut_tail (s.reserved f) p.truncation.new) }) turn new

-- resv minus the indices that went and had no page, used minus all that went, to leave
abbrev pub TruncateSettleRow : Pool → Settle → Turn TruncatePhase → Pool → Type 0
TruncateSettleRow s p turn new =
    (p.excess ≤ s.resv) × (p.excess + p.evicted ≤ s.used)
    × Goes (at.Leave (record { truncation = p.truncation }))
    (record s { resv = s.resv - p.excess; used = s.used - (p.excess + p.evicted) }) turn new

-- the file lock is left: Done
abbrev pub TruncateLeaveRow : Pool → Leave → Turn TruncatePhase → Pool → Type 0
TruncateLeaveRow s p turn new = Ends answer.Done (unlocked s p.truncation.file) turn new

-- what one step of a truncation may do
abbrev pub TruncateRow : Pool → (task : ℕ) → (killed grant : Bool) → TruncatePhase → Turn TruncatePhase → Pool → Type 0
TruncateRow s t killed grant (at.Start p) turn new = TruncateStartRow s t killed p turn new
TruncateRow s t killed grant (at.Size p) turn new = TruncateSizeRow s p turn new
TruncateRow s t killed grant (at.Want p) turn new = TruncateWantRow s t p turn new
TruncateRow s t killed grant (at.Locked p) turn new = TruncateLockedRow s p turn new
TruncateRow s t killed grant (at.Unmap p) turn new = TruncateUnmapRow s p turn new
TruncateRow s t killed grant (at.Evict p) turn new = TruncateEvictRow s p turn new
TruncateRow s t killed grant (at.Free p) turn new = TruncateFreeRow s p turn new
TruncateRow s t killed grant (at.Unslot p) turn new = TruncateUnslotRow s p turn new
TruncateRow s t killed grant (at.Tail p) turn new = TruncateTailRow s p turn new
TruncateRow s t killed grant (at.Settle p) turn new = TruncateSettleRow s p turn new
TruncateRow s t killed grant (at.Leave p) turn new = TruncateLeaveRow s p turn new
