-- What a call means that runs alone: its answer and the state after it, operation by operation. Of the
-- conditions of an operation the first that holds decides; what it doesn't name is as before.
use Rattle.std.specs.Prelude.{◌≡◌, ◌≢◌, ℕ, ◌+◌, ◌-◌, ◌≤◌, ◌<◌, ◌⊎◌, ◌==◌, ◌&&◌, ◌||◌, Bool, true, false, not, Option, Some, None}
use Rattle.std.specs.Prelude.{is_some, List, [], ◌∷◌, max, min, nat_le, nat_lt, MatchBool, MatchOption, if◌then◌else◌}
use Rattle.hp_base.specs.Numbers.{put, put2, is_none}
use Rattle.hp_base.specs.Indices.{is_within, count_within, missing, add_range, cut_tail}
use Rattle.hp_base.specs.Mappings.{find, is_base, without, without_mapping, IsRoom, entered}
use Rattle.hp_base.specs.declared.mapping.Mapping.{Mapping}
use Rattle.hp_base.specs.declared.answer.Answer.{Answer}
use Rattle.hp_base.specs.declared.answer.Answer.TheVariants.{Mapped, Done, Segv, Beyond, NoFrame, NoQuota, BadFile, BadRange, NotMapped, NoAddress}
use Rattle.hp_base.specs.declared.event.Op.{Op}
use Rattle.hp_base.specs.declared.event.Op.TheVariants as op
use Rattle.hp_base.specs.declared.event.Event.{Event}
use Rattle.hp_base.specs.declared.event.Event.TheVariants.{Begin, Step}
use Rattle.hp_frames.specs.Bank.{exceeds}
use Rattle.hp_frames.specs.declared.frame.FrameState.{FrameState}
use Rattle.hp_frames.specs.declared.frame.FrameState.TheVariants.{Free, Placed}
use Rattle.hp_machine.specs.State.{State, free_frames}
use Rattle.hp_machine.specs.Headline.{reserved_in}
use Rattle.hp_machine.specs.Events.{Run}
use Rattle.hp_machine.specs.Parts.{answer_of, frame_after}
use Rattle.hp_machine.specs.declared.outcome.Life.TheVariants.{Alive, Dead}
use Rattle.hp_machine.specs.declared.outcome.Outcome.{Outcome}
use Rattle.hp_machine.specs.declared.outcome.Outcome.TheVariants.{Ended}
use Rattle.hp_machine.specs.declared.touch.Access.{Access}
use Rattle.hp_machine.specs.declared.touch.Access.TheVariants as access

-- no call is in flight, and the task is alive and not killed
abbrev pub IsReady : State → (task : ℕ) → Type 0
IsReady s t = ((u : ℕ) → s.calls u ≡ None) × (s.life t ≡ Alive)

-- granted steps of the task, of which the last one alone ends its call, with that answer
abbrev pub AreSteps : (task : ℕ) → Answer → List (Event × Outcome) → Type 0
AreSteps t answer [] = ⊥
AreSteps t answer (e ∷ es) =
    (e.0 ≡ Step t true) × (((e.1 ≡ Ended answer) × (es ≡ [])) ⊎ (((other : Answer) → e.1 ≢ Ended other) × AreSteps t answer es))

-- the task begins the call, and its granted steps alone lead to its end
abbrev pub IsCall : (task : ℕ) → Op → Answer → List (Event × Outcome) → Type 0
IsCall t op answer [] = ⊥
IsCall t op answer (e ∷ es) = (e.0 ≡ Begin t op) × AreSteps t answer es

-- n is m; nothing is said of spare descriptors, nor of capacity prepared for a mapping, and of the used count below
abbrev pub Looks : State → State → Type 0
Looks m n = n ≡ record m { pool = record m.pool { spare = n.spare; ready = n.ready; used = n.used } }

-- the used count changed by as much as the number of reserved indices
abbrev pub UsesAlike : State → State → Type 0
UsesAlike s n = n.used + reserved_in s ≡ s.used + reserved_in n

-- this answer, and this state
abbrev pub Gives : Answer → State → Answer → State → Type 0
Gives wanted after answer m = (answer ≡ wanted) × (m ≡ after)

-- the free frames that no reservation counts on (Linux: `available_huge_pages`)
abbrev pub available : State → ℕ
available s = free_frames s.frame s.frames - s.resv

-- n more reserved indices are more than the quota lets the files have (Linux: `hugepage_subpool_get_pages`)
abbrev pub exceeds_quota : State → ℕ → Bool
exceeds_quota s n = exceeds s.geometry.quota (reserved_in s) n

-- the range check: BadFile, BadRange, or what is meant
abbrev pub Checked : State → (file : ℕ) → (out_of_range : Bool) → Answer → State → (meant : Type 0) → Type 0
Checked s f out_of_range answer m meant =
    MatchBool (nat_le s.geometry.files f)
    (Gives BadFile s answer m)
    (MatchBool out_of_range
    (Gives BadRange s answer m)
    meant)

-- the range is empty, or ends above the limit of a file
abbrev pub is_bad_range : State → (from len : ℕ) → Bool
is_bad_range s from len = (len == 0) || nat_lt s.geometry.limit (from + len)

-- Map (Linux: `hugetlb_reserve_pages`). No base: NoAddress. More indices of the range are missing from the
-- reserved ones than the quota lets the files have: NoQuota. More than frames are available: NoFrame. Else the
-- mapping is entered at the least base, the range is reserved, resv gains what was missing, size grows to the end
-- of the range: Mapped
abbrev pub MapMeans : State → (task file from len : ℕ) → Answer → State → Type 0
MapMeans s t f from len answer m =
    (found : Option ℕ) × IsRoom s.geometry.space (s.mappings t) len found
    × MatchOption found
    (Gives NoAddress s answer m)
    (λ base. MatchBool (exceeds_quota s (missing (s.reserved f) from (from + len)))
    (Gives NoQuota s answer m)
    (MatchBool (nat_lt (available s) (missing (s.reserved f) from (from + len)))
    (Gives NoFrame s answer m)
    (Gives (Mapped base)
    (record s {
      pool = record s.pool {
        mappings = put s.mappings t (entered (s.mappings t) (record { base = base; file = f; from = from; len = len }));
        reserved = put s.reserved f (add_range (s.reserved f) from (from + len));
        resv = s.resv + missing (s.reserved f) from (from + len);
        size = put s.size f (max (s.size f) (from + len));
      };
    }) answer m)))

-- MapNoReserve (Linux: `hugetlbfs_file_mmap` with `MAP_NORESERVE`). No base: NoAddress. Else the mapping is
-- entered at the least base, size grows to the end of the range: Mapped
abbrev pub MapNoReserveMeans : State → (task file from len : ℕ) → Answer → State → Type 0
MapNoReserveMeans s t f from len answer m =
    (found : Option ℕ) × IsRoom s.geometry.space (s.mappings t) len found
    × MatchOption found
    (Gives NoAddress s answer m)
    (λ base. Gives (Mapped base)
    (record s {
      pool = record s.pool {
        mappings = put s.mappings t (entered (s.mappings t) (record { base = base; file = f; from = from; len = len }));
        size = put s.size f (max (s.size f) (from + len));
      };
    }) answer m)

-- a touched index that has no page (Linux: `hugetlb_no_page`). Reserved: a free frame becomes its page, with
-- word 0, and resv loses one. One more is more than the quota lets the files have: NoQuota. A frame is available:
-- it becomes the page, and the index is reserved. Else NoFrame. The page is read or written, and translated
abbrev pub PageMade : State → (task vpn : ℕ) → Access → (file index : ℕ) → Answer → State → Type 0
PageMade s t vpn access f i answer m =
    MatchBool (s.reserved f i)
    ((x : ℕ) × (s.frame x ≡ Free) × (1 ≤ s.resv)
    × Gives (answer_of access 0)
    (record s {
      pool = record s.pool {
        frame = frame_after access (put s.frame x (Placed 0)) x;
        resv = s.resv - 1;
        pages = put2 s.pages f i (Some x);
        entries = put2 s.entries t vpn (Some x);
      };
    }) answer m)
    (MatchBool (exceeds_quota s 1)
    (Gives NoQuota s answer m)
    (MatchBool (nat_lt 0 (available s))
    ((x : ℕ) × (s.frame x ≡ Free)
    × Gives (answer_of access 0)
    (record s {
      pool = record s.pool {
        frame = frame_after access (put s.frame x (Placed 0)) x;
        reserved = put2 s.reserved f i true;
        pages = put2 s.pages f i (Some x);
        entries = put2 s.entries t vpn (Some x);
      };
    }) answer m)
    (Gives NoFrame s answer m)))

-- Load and Store (Linux: `hugetlb_fault`). In no mapping: Segv. Index at or above the size: Beyond. The index
-- has a page: it is read or written, and translated. Else a page is made
abbrev pub TouchMeans : State → (task vpn : ℕ) → Access → Answer → State → Type 0
TouchMeans s t vpn access answer m =
    MatchOption (find (s.mappings t) vpn)
    (Gives Segv s answer m)
    (λ place. MatchBool (nat_le (s.size place.0) place.1)
    (Gives Beyond s answer m)
    (MatchOption (s.pages place.0 place.1)
    (PageMade s t vpn access place.0 place.1 answer m)
    (λ x. (word : ℕ) × (s.frame x ≡ Placed word)
    × Gives (answer_of access word)
    (record s { pool = record s.pool { frame = frame_after access s.frame x; entries = put2 s.entries t vpn (Some x) } }) answer m)))

-- Unmap (Linux: `unmap_region`). No mapping with that base: NotMapped. Else it and its entries go: Done
abbrev pub UnmapMeans : State → (task base : ℕ) → Answer → State → Type 0
UnmapMeans s t base answer m =
    MatchBool (is_base (s.mappings t) base)
    (Gives Done (record s {
      pool = record s.pool {
        mappings = put s.mappings t (without (s.mappings t) base);
        entries = put s.entries t (without_mapping (s.mappings t) (s.entries t) base);
      };
    }) answer m)
    (Gives NotMapped s answer m)

-- Exit (Linux: `exit_mmap`). All mappings and entries of the task go, and it is dead: Done
abbrev pub ExitMeans : State → (task : ℕ) → Answer → State → Type 0
ExitMeans s t answer m =
    Gives Done (record s {
      pool = record s.pool { mappings = put s.mappings t []; entries = put s.entries t (λ _. None) };
      life = put s.life t Dead;
    }) answer m

-- the pages of a file without those at the indices that go
unfoldable pub without_pages : (ℕ → Option ℕ) → (gone : ℕ → Bool) → ℕ → Option ℕ
without_pages pages gone = λ j. if gone j then None else pages j

-- what was found is one of the indices that go
abbrev pub is_gone : (file : ℕ) → (gone : ℕ → Bool) → Option (ℕ × ℕ) → Bool
is_gone f gone None = false
is_gone f gone (Some place) = (place.0 == f) && gone place.1

-- the entries of all tasks without those that stand for the indices that go
unfoldable pub without_entries : (ℕ → List Mapping) → (ℕ → ℕ → Option ℕ) → (file : ℕ) → (gone : ℕ → Bool)
    → ℕ → ℕ → Option ℕ
without_entries mappings table f gone = λ u v. if is_gone f gone (find (mappings u) v) then None else table u v

-- the frames of the pages that go are free; any other frame is where it was
pub record Freed (pages : ℕ → Option ℕ) (before : ℕ → FrameState) (gone : ℕ → Bool) (frame : ℕ → FrameState) : Type 0 where
  pub freed : (j x : ℕ) → gone j ≡ true → pages j ≡ Some x → frame x ≡ Free
  pub others : (x : ℕ) → ((j : ℕ) → gone j ≡ true → pages j ≢ Some x) → frame x ≡ before x

-- the indices of a range that have a page
abbrev pub paged_within : State → (file from to : ℕ) → ℕ → Bool
paged_within s f from to = λ j. is_within from to j && is_some (s.pages f j)

-- Punch (Linux: `hugetlbfs_punch_hole`). The indices of the range that have a page lose it and are no longer
-- reserved, their frames are free, and no task translates them; resv stays: Done
abbrev pub PunchMeans : State → (file from len : ℕ) → Answer → State → Type 0
PunchMeans s f from len answer m =
    let gone = paged_within s f from (from + len) in
    (frame : ℕ → FrameState) × Freed (s.pages f) s.frame gone frame
    × Gives Done
    (record s {
      pool = record s.pool {
        frame = frame;
        pages = put s.pages f (without_pages (s.pages f) gone);
        reserved = put s.reserved f (λ j. s.reserved f j && not (gone j));
        entries = without_entries s.mappings s.entries f gone;
      };
    }) answer m

-- Truncate (Linux: `hugetlb_vmtruncate`). Size is the new one; all indices from there on lose their page and are
-- no longer reserved, the pages' frames are free, resv loses the indices that were reserved without a page,
-- and no task translates an index from there on: Done
abbrev pub TruncateMeans : State → (file new : ℕ) → Answer → State → Type 0
TruncateMeans s f new answer m =
    let gone = nat_le new in
    let waiting = count_within (λ j. s.reserved f j && is_none (s.pages f j)) new s.geometry.limit in
    (frame : ℕ → FrameState) × Freed (s.pages f) s.frame gone frame × (waiting ≤ s.resv)
    × Gives Done
    (record s {
      pool = record s.pool {
        size = put s.size f new;
        frame = frame;
        pages = put s.pages f (without_pages (s.pages f) gone);
        reserved = put s.reserved f (cut_tail (s.reserved f) new);
        resv = s.resv - waiting;
        entries = without_entries s.mappings s.entries f gone;
      };
    }) answer m

-- Each index of [from, to) has a page: the one it had, else a free frame with word 0. Pages elsewhere and frames that
-- became no page are as they were, and as many frames fewer are free as there are new pages
pub record Filled (frames : ℕ) (pages : ℕ → Option ℕ) (before : ℕ → FrameState) (from to : ℕ) (after : ℕ → Option ℕ)
    (frame : ℕ → FrameState) : Type 0 where
  pub fresh : (j : ℕ) → from ≤ j → j < to → pages j ≡ None → (x : ℕ) × (after j ≡ Some x) × (before x ≡ Free) × (frame x ≡ Placed 0)
  pub kept : (j x : ℕ) → pages j ≡ Some x → after j ≡ Some x
  pub elsewhere : (j : ℕ) → is_within from to j ≡ false → after j ≡ pages j
  pub others : (x : ℕ) → ((j : ℕ) → pages j ≡ None → after j ≢ Some x) → frame x ≡ before x
  pub count : free_frames frame frames + count_within (λ j. is_none (pages j)) from to ≡ free_frames before frames

-- the range [from, to) has pages; the reserved indices gain those that gained a page, and resv loses the new pages
-- at indices that were reserved
abbrev pub RangePaged : State → (file from to : ℕ) → (size : ℕ → ℕ) → State → Type 0
RangePaged s f from to size m =
    let gains = λ (j : ℕ). is_within from to j && is_none (s.pages f j) in
    let promised = count_within (λ j. s.reserved f j && is_none (s.pages f j)) from to in
    (pages : ℕ → Option ℕ) × (frame : ℕ → FrameState) × Filled s.frames (s.pages f) s.frame from to pages frame × (promised ≤ s.resv)
    × (m ≡ record s {
      pool = record s.pool {
        frame = frame;
        pages = put s.pages f pages;
        reserved = put s.reserved f (λ j. s.reserved f j || gains j);
        resv = s.resv - promised;
        size = size;
      };
    })

-- to how many missing indices an allocation can give a page: the lesser of the frames that are available and of what
-- the quota lets the files still have
abbrev pub can_page : State → ℕ
can_page s = elim s.geometry.quota [ None ↦ available s | Some most ↦ min (available s) (most - reserved_in s) ]

-- what it answers where that is too few
abbrev pub short_answer : State → Answer
short_answer s =
    elim s.geometry.quota [
      | None ↦ NoFrame
      | Some most ↦ if nat_le (most - reserved_in s) (available s) then NoQuota else NoFrame
    ]

-- Alloc (Linux: `hugetlbfs_fallocate`). No more of the range is missing from the reserved indices than can be given a
-- page: the range is paged, and size grows to its end unless it is to be kept: Done. Else the range is paged up to
-- the missing index that has as many missing ones before it as could be given a page: NoQuota or NoFrame
abbrev pub AllocMeans : State → (file from len : ℕ) → (keep : Bool) → Answer → State → Type 0
AllocMeans s f from len keep answer m =
    MatchBool (nat_le (missing (s.reserved f) from (from + len)) (can_page s))
    ((answer ≡ Done) × RangePaged s f from (from + len) (if keep then s.size else put s.size f (max (s.size f) (from + len))) m)
    ((x : ℕ) × (is_within from (from + len) x ≡ true) × (s.reserved f x ≡ false) × (missing (s.reserved f) from x ≡ can_page s)
    × (answer ≡ short_answer s) × RangePaged s f from x s.size m)

-- what the call means
abbrev pub Means : State → (task : ℕ) → Op → Answer → State → Type 0
Means s t (op.Map f from len) answer m = Checked s f (is_bad_range s from len) answer m (MapMeans s t f from len answer m)
Means s t (op.MapNoReserve f from len) answer m = Checked s f (is_bad_range s from len) answer m (MapNoReserveMeans s t f from len answer m)
Means s t (op.Unmap base) answer m = UnmapMeans s t base answer m
Means s t (op.Load vpn) answer m = TouchMeans s t vpn access.Load answer m
Means s t (op.Store vpn word) answer m = TouchMeans s t vpn (access.Store word) answer m
Means s t (op.Alloc f from len keep) answer m = Checked s f (is_bad_range s from len) answer m (AllocMeans s f from len keep answer m)
Means s t (op.Punch f from len) answer m = Checked s f (is_bad_range s from len) answer m (PunchMeans s f from len answer m)
Means s t (op.Truncate f new) answer m = Checked s f (nat_lt s.geometry.limit new) answer m (TruncateMeans s f new answer m)
Means s t op.Exit answer m = ExitMeans s t answer m

-- a call of a task that runs alone from here, by granted steps to its end, has the answer and leads to the state that
-- the table tells, and the used count changes as the reserved indices do
abbrev pub CallsAloneMean : State → Type 0
CallsAloneMean s = (t : ℕ) (op : Op) (answer : Answer) (events : List (Event × Outcome)) (n : State)
    → IsReady s t → IsCall t op answer events → Run s events n → (m : State) × Means s t op answer m × Looks m n × UsesAlike s n
