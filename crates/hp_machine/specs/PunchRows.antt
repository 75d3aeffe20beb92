-- The rows of a punched hole: what one step in each phase may do.
use Rattle.std.specs.Prelude.{ℕ, ◌+◌, ◌-◌, ◌≤◌, ◌&&◌, Bool, true, false, not, MatchBool, is_some, nat_lt, nat_le, if◌then◌else◌}
use Rattle.hp_base.specs.Numbers.{put, put2}
use Rattle.hp_base.specs.Indices.{splits}
use Rattle.hp_base.specs.declared.answer.Answer.TheVariants as answer
use Rattle.hp_frames.specs.declared.frame.FrameState.TheVariants as frame
use Rattle.hp_machine.specs.State.{Pool}
use Rattle.hp_machine.specs.Parts.{Goes, Ends, StartRow, is_bad_range, unlocked, WantSlotRow, unslotted, UnmapIndexRow, EvictRow}
use Rattle.hp_machine.specs.declared.punch.Start.{Start}
use Rattle.hp_machine.specs.declared.punch.Want.{Want}
use Rattle.hp_machine.specs.declared.punch.Locked.{Locked}
use Rattle.hp_machine.specs.declared.punch.Unmap.{Unmap}
use Rattle.hp_machine.specs.declared.punch.Evict.{Evict}
use Rattle.hp_machine.specs.declared.punch.Delete.{Delete}
use Rattle.hp_machine.specs.declared.punch.Free.{Free}
use Rattle.hp_machine.specs.declared.punch.Unslot.{Unslot}
use Rattle.hp_machine.specs.declared.punch.Leave.{Leave}
use Rattle.hp_machine.specs.declared.punch.PunchPhase.{PunchPhase}
use Rattle.hp_machine.specs.declared.punch.PunchPhase.TheVariants as at
use Rattle.hp_machine.specs.declared.call.Turn.{Turn}

-- range check. Killed: Killed. File lock held: blocked. Else it is taken, to want with the first index
abbrev pub PunchStartRow : Pool → (task : ℕ) → (killed : Bool) → Start → Turn PunchPhase → Pool → Type 0
PunchStartRow s t killed p turn new =
    StartRow s t killed p.hole.file (is_bad_range s p.hole.from p.hole.len) answer.Killed (at.Start p)
    (at.Want (record { hole = p.hole; index = p.hole.from })) turn new

-- slot held: blocked. Else it is taken, to locked
abbrev pub PunchWantRow : Pool → (task : ℕ) → Want → Turn PunchPhase → Pool → Type 0
PunchWantRow s t p turn new =
    WantSlotRow s t p.hole.file p.index (at.Want p) (at.Locked (record { hole = p.hole; index = p.index })) turn new

-- no page cached: to unslot. Else to unmap, at task 1
abbrev pub PunchLockedRow : Pool → Locked → Turn PunchPhase → Pool → Type 0
PunchLockedRow s p turn new =
    MatchBool (is_some (s.pages p.hole.file p.index))
    (Goes (at.Unmap (record { hole = p.hole; index = p.index; task = 1 })) s turn new)
    (Goes (at.Unslot (record { hole = p.hole; index = p.index })) s turn new)

-- one task's entries of the index are cleared; more tasks: to unmap at the next. Else to evict
abbrev pub PunchUnmapRow : Pool → Unmap → Turn PunchPhase → Pool → Type 0
PunchUnmapRow s p turn new =
    UnmapIndexRow s p.task p.hole.file p.index
    (at.Unmap (record { hole = p.hole; index = p.index; task = p.task + 1 }))
    (at.Evict (record { hole = p.hole; index = p.index })) turn new

-- the page leaves the cache into the call's hand, to delete
abbrev pub PunchEvictRow : Pool → Evict → Turn PunchPhase → Pool → Type 0
PunchEvictRow s p turn new = EvictRow s p.hole.file p.index (λ x. at.Delete (record { hole = p.hole; index = p.index; held = x })) turn new

-- the index leaves the reserve map (Linux: `region_del`). Inside a region that takes a spare descriptor which
-- no change needs; where there is none, and growth isn't granted, the delete is denied and nothing changes.
-- In either case to free
abbrev pub PunchDeleteRow : Pool → (grant : Bool) → Delete → Turn PunchPhase → Pool → Type 0
PunchDeleteRow s grant p turn new =
    let f = p.hole.file in
    let is_split = splits (s.reserved f) p.index in
    MatchBool (is_split && nat_le (s.spare f) (s.pending f) && not grant)
    (Goes (at.Free (record { hole = p.hole; index = p.index; held = p.held; denied = true })) s turn new)
    (Goes (at.Free (record { hole = p.hole; index = p.index; held = p.held; denied = false }))
    (record s {
      reserved = put2 s.reserved f p.index false;
      spare = put s.spare f (if is_split && nat_lt (s.pending f) (s.spare f) then s.spare f - 1 else s.spare f);
    }) turn new)

-- the frame is freed. The delete was denied: resv plus 1, for the index is still reserved. Else used minus 1, for it
-- isn't. To unslot
abbrev pub PunchFreeRow : Pool → Free → Turn PunchPhase → Pool → Type 0
PunchFreeRow s p turn new =
    MatchBool p.denied
    (Goes (at.Unslot (record { hole = p.hole; index = p.index }))
    (record s { frame = put s.frame p.held frame.Free; resv = s.resv + 1 }) turn new)
    ((1 ≤ s.used)
    × Goes (at.Unslot (record { hole = p.hole; index = p.index }))
    (record s { frame = put s.frame p.held frame.Free; used = s.used - 1 }) turn new)

-- the slot is left. More indices: to want with the next. Else to leave
abbrev pub PunchUnslotRow : Pool → Unslot → Turn PunchPhase → Pool → Type 0
PunchUnslotRow s p turn new =
    let after = unslotted s p.hole.file p.index in
    MatchBool (nat_lt (p.index + 1) (p.hole.from + p.hole.len))
    (Goes (at.Want (record { hole = p.hole; index = p.index + 1 })) after turn new)
    (Goes (at.Leave (record { hole = p.hole })) after turn new)

-- the file lock is left: Done
abbrev pub PunchLeaveRow : Pool → Leave → Turn PunchPhase → Pool → Type 0
PunchLeaveRow s p turn new = Ends answer.Done (unlocked s p.hole.file) turn new

-- what one step of a punch may do
abbrev pub PunchRow : Pool → (task : ℕ) → (killed grant : Bool) → PunchPhase → Turn PunchPhase → Pool → Type 0
PunchRow s t killed grant (at.Start p) turn new = PunchStartRow s t killed p turn new
PunchRow s t killed grant (at.Want p) turn new = PunchWantRow s t p turn new
PunchRow s t killed grant (at.Locked p) turn new = PunchLockedRow s p turn new
PunchRow s t killed grant (at.Unmap p) turn new = PunchUnmapRow s p turn new
PunchRow s t killed grant (at.Evict p) turn new = PunchEvictRow s p turn new
PunchRow s t killed grant (at.Delete p) turn new = PunchDeleteRow s grant p turn new
PunchRow s t killed grant (at.Free p) turn new = PunchFreeRow s p turn new
PunchRow s t killed grant (at.Unslot p) turn new = PunchUnslotRow s p turn new
PunchRow s t killed grant (at.Leave p) turn new = PunchLeaveRow s p turn new
