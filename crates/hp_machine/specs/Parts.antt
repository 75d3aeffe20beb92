-- What rows of more than one operation say: outcomes, locks and slots, takes, changes, and the pages and
-- entries that go.
use Rattle.std.specs.Prelude.{◌≡◌, ℕ, ◌+◌, ◌-◌, ◌≤◌, ◌&&◌, ◌||◌, ◌==◌, Bool, not, Some, None, max, nat_le, nat_lt}
use Rattle.std.specs.Prelude.{MatchBool, MatchOption, if◌then◌else◌}
use Rattle.hp_base.specs.Numbers.{put, put2}
use Rattle.hp_base.specs.Indices.{missing, add_range, touches}
use Rattle.hp_base.specs.Mappings.{without_index, without_mapping}
use Rattle.hp_base.specs.declared.answer.Answer.{Answer}
use Rattle.hp_base.specs.declared.answer.Answer.TheVariants as answer
use Rattle.hp_frames.specs.declared.frame.FrameState.{FrameState}
use Rattle.hp_frames.specs.declared.frame.FrameState.TheVariants.{Free, Hand, Placed}
use Rattle.hp_region.specs.Change.{Change}
use Rattle.hp_machine.specs.State.{Pool, frees, quota_is_used_up, slot_of}
use Rattle.hp_machine.specs.declared.touch.Access.{Access}
use Rattle.hp_machine.specs.declared.touch.Access.TheVariants.{Load, Store}
use Rattle.hp_machine.specs.declared.call.Turn.{Turn}
use Rattle.hp_machine.specs.declared.call.Turn.TheVariants.{Moved, Blocked, Ended}

-- this turn, and this pool after it
abbrev pub Gives : {P : Type 0} → Turn P → Pool → Turn P → Pool → Type 0
Gives wanted after turn new = (turn ≡ wanted) × (new ≡ after)

-- the call moves to that phase
abbrev pub Goes : {P : Type 0} → P → Pool → Turn P → Pool → Type 0
Goes phase after turn new = (turn ≡ Moved phase) × (new ≡ after)

-- the call ends with that answer
abbrev pub Ends : {P : Type 0} → Answer → Pool → Turn P → Pool → Type 0
Ends a after turn new = (turn ≡ Ended a) × (new ≡ after)

-- the call waits where it stands, and nothing changes
abbrev pub Waits : {P : Type 0} → P → (holder : ℕ) → Pool → Turn P → Pool → Type 0
Waits phase holder s turn new = (turn ≡ Blocked phase holder) × (new ≡ s)

-- the start of a call on a file: the range check, a kill, and the file's lock
abbrev pub StartRow : {P : Type 0} → Pool → (task : ℕ) → (killed : Bool) → (file : ℕ) → (out_of_range : Bool)
    → (at_kill : Answer) → (here next : P) → Turn P → Pool → Type 0
StartRow s t killed f out_of_range at_kill here next turn new =
    MatchBool (nat_le s.geometry.files f)
    (Ends answer.BadFile s turn new)
    (MatchBool out_of_range
    (Ends answer.BadRange s turn new)
    (MatchBool killed
    (Ends at_kill s turn new)
    (MatchOption (s.locks f)
    (Goes next (record s { locks = put s.locks f (Some t) }) turn new)
    (λ holder. Waits here holder s turn new))))

-- the range is empty, or ends above the limit of a file
abbrev pub is_bad_range : Pool → (from len : ℕ) → Bool
is_bad_range s from len = (len == 0) || nat_lt s.geometry.limit (from + len)

abbrev pub unlocked : Pool → (file : ℕ) → Pool
unlocked s f = record s { locks = put s.locks f None }

-- the slot of an index is taken, or another task holds it
abbrev pub WantSlotRow : {P : Type 0} → Pool → (task file index : ℕ) → (here next : P) → Turn P → Pool → Type 0
WantSlotRow s t f i here next turn new =
    let slot = slot_of s.geometry f i in
    MatchOption (s.slots slot)
    (Goes next (record s { slots = put s.slots slot (Some t) }) turn new)
    (λ holder. Waits here holder s turn new)

abbrev pub unslotted : Pool → (file index : ℕ) → Pool
unslotted s f i = record s { slots = put s.slots (slot_of s.geometry f i) None }

-- a change of the range is begun, or denied where it wants growth that isn't granted (Linux: `region_chg`)
abbrev pub ChangeRow : {P : Type 0} → Pool → (grant : Bool) → (file from to : ℕ) → (denied : P)
    → (changed : Change → P) → Turn P → Pool → Type 0
ChangeRow s grant f from to denied changed turn new =
    MatchBool ((s.spare f == s.pending f) && not grant)
    (Goes denied s turn new)
    (Goes (changed (record { from = from; to = to; missing = missing (s.reserved f) from to }))
    (record s {
      pending = put s.pending f (s.pending f + 1);
      spare = put s.spare f (max (s.spare f) (s.pending f + 1));
    }) turn new)

-- a change is taken back (Linux: `region_abort`)
abbrev pub aborted : Pool → (file : ℕ) → Pool
aborted s f = record s { pending = put s.pending f (s.pending f - 1) }

-- a change ends with its range in the set; where the range begins a region of its own it takes a spare
-- descriptor (Linux: `region_add`)
abbrev pub committed : Pool → (file : ℕ) → Change → Pool
committed s f change = record s {
  pending = put s.pending f (s.pending f - 1);
  spare = put s.spare f (if touches (s.reserved f) change.from change.to then s.spare f else s.spare f - 1);
  reserved = put s.reserved f (add_range (s.reserved f) change.from change.to);
}

-- a change is committed; others reserved some of what was missing, or none
abbrev pub CommitRow : {P : Type 0} → Pool → (file : ℕ) → Change → (settle next : P) → Turn P → Pool → Type 0
CommitRow s f change settle next turn new =
    MatchBool (nat_lt (missing (s.reserved f) change.from change.to) change.missing)
    (Goes settle (committed s f change) turn new)
    (Goes next (committed s f change) turn new)

-- a frame for one page: a reserved one where nothing was missing, else one that isn't reserved, for a page that is
-- used from now on; the quota is asked first (Linux: `hugepage_subpool_get_pages`, `dequeue_huge_page_vma`)
abbrev pub TakeRow : {P : Type 0} → Pool → (missing : ℕ) → (refused : Answer → P) → (taken : ℕ → P) → Turn P → Pool → Type 0
TakeRow s missing refused taken turn new =
    MatchBool (missing == 0)
    ((x : ℕ) × (s.frame x ≡ Free) × (1 ≤ s.resv) × Goes (taken x) (record s { frame = put s.frame x Hand; resv = s.resv - 1 }) turn new)
    (MatchBool (quota_is_used_up s)
    (Goes (refused answer.NoQuota) s turn new)
    (MatchBool (frees s == s.resv)
    (Goes (refused answer.NoFrame) s turn new)
    ((x : ℕ) × (s.frame x ≡ Free) × Goes (taken x) (record s { frame = put s.frame x Hand; used = s.used + 1 }) turn new)))

-- one reservation is given back, and its page is no longer used
abbrev pub SettleOneRow : {P : Type 0} → Pool → (next : P) → Turn P → Pool → Type 0
SettleOneRow s next turn new =
    (1 ≤ s.resv) × (1 ≤ s.used) × Goes next (record s { resv = s.resv - 1; used = s.used - 1 }) turn new

-- a frame goes from a hand to a page, whose word is 0 (Linux: `hugetlb_add_to_page_cache`)
abbrev pub placed : Pool → (file index held : ℕ) → Pool
placed s f i x = record s { pages = put2 s.pages f i (Some x); frame = put s.frame x (Placed 0) }

-- a frame goes from a hand back to the free ones, with its reservation
abbrev pub restored : Pool → (held : ℕ) → Pool
restored s x = record s { frame = put s.frame x Free; resv = s.resv + 1 }

abbrev pub answer_of : Access → (word : ℕ) → Answer
answer_of Load word = answer.Word word
answer_of (Store new) word = answer.Done

-- where the frames are after a page was read or written
abbrev pub frame_after : Access → (ℕ → FrameState) → (page : ℕ) → ℕ → FrameState
frame_after Load frame x = frame
frame_after (Store new) frame x = put frame x (Placed new)

-- one task's entries of the index are cleared; then the next task's, or the page may go
-- (Linux: `hugetlb_vmdelete_list`)
abbrev pub UnmapIndexRow : {P : Type 0} → Pool → (task file index : ℕ) → (more last : P) → Turn P → Pool → Type 0
UnmapIndexRow s k f i more last turn new =
    let after = record s { entries = put s.entries k (without_index (s.mappings k) (s.entries k) f i) } in
    MatchBool (nat_lt k s.geometry.tasks)
    (Goes more after turn new)
    (Goes last after turn new)

-- the page goes from the cache into the call's hand (Linux: `hugetlb_delete_from_page_cache`)
abbrev pub EvictRow : {P : Type 0} → Pool → (file index : ℕ) → (next : ℕ → P) → Turn P → Pool → Type 0
EvictRow s f i next turn new =
    (x : ℕ) × (s.pages f i ≡ Some x) × Goes (next x) (record s { pages = put2 s.pages f i None; frame = put s.frame x Hand }) turn new

-- the task's entries of the mapping are cleared (Linux: `unmap_vmas`)
abbrev pub cleared : Pool → (task base : ℕ) → Pool
cleared s t base = record s { entries = put s.entries t (without_mapping (s.mappings t) (s.entries t) base) }
