-- What each call in flight stands on, phase by phase.
use Rattle.std.proofs.Common.{◌≡◌, ◌≢◌, ℕ, ◌+◌, ◌<◌, ◌≤◌, arith}
use Rattle.std.specs.Prelude.{◌==◌, Bool, true, false, Option, Some, None, IfSome}
use Rattle.hp_base.specs.Indices.{is_within, missing, count_within}
use Rattle.hp_base.specs.Mappings.{find, fits, is_base, in_mapping}
use Rattle.hp_base.specs.declared.answer.Answer.{Answer}
use Rattle.hp_base.specs.declared.answer.Answer.TheVariants as answer
use Rattle.hp_region.specs.Change.{Change}
use Rattle.hp_machine.specs.State.{Geometry, State, slot_of}
use Rattle.hp_machine.specs.Views.{slot_held, locked_file}
use Rattle.hp_machine.specs.declared.touch.Touch.{Touch}
use Rattle.hp_machine.specs.declared.touch.TouchPhase.TheVariants as touch
use Rattle.hp_machine.specs.declared.map.MapRequest.{MapRequest}
use Rattle.hp_machine.specs.declared.map.MapPhase.TheVariants as map
use Rattle.hp_machine.specs.declared.alloc.Allocation.{Allocation}
use Rattle.hp_machine.specs.declared.alloc.AllocPhase.TheVariants as alloc
use Rattle.hp_machine.specs.declared.punch.Hole.{Hole}
use Rattle.hp_machine.specs.declared.punch.PunchPhase.TheVariants as punch
use Rattle.hp_machine.specs.declared.truncate.Truncation.{Truncation}
use Rattle.hp_machine.specs.declared.truncate.TruncatePhase.TheVariants as truncate
use Rattle.hp_machine.specs.declared.unmap.UnmapPhase.TheVariants as unmap
use Rattle.hp_machine.specs.declared.exit.ExitPhase.TheVariants as exit
use Rattle.hp_machine.specs.declared.call.Call.{Call}
use Rattle.hp_machine.specs.declared.call.Call.TheVariants as call

-- the task holds the slot of the index, the lock of the file
abbrev pub HasSlot : Geometry → State → (task file index : ℕ) → Type 0
HasSlot g s u f i = s.slots (slot_of g f i) ≡ Some u

-- and the lock of the file
abbrev pub HasLock : State → (task file : ℕ) → Type 0
HasLock s u f = s.locks f ≡ Some u

-- the touch's virtual page stands for its index and has no entry
abbrev pub Aimed : Geometry → State → (task : ℕ) → Touch → Type 0
Aimed g s u touch = record {
  found : find (s.mappings u) touch.vpn ≡ Some (touch.file, touch.index);
  file : touch.file < g.files;
  index : touch.index < g.limit;
  untranslated : s.entries u touch.vpn ≡ None;
}

-- the change is of that one index
abbrev pub IsOne : Change → (index : ℕ) → Type 0
IsOne change i = record { begins : change.from ≡ i; ends : change.to ≡ i + 1; few : change.missing ≤ 1 }

-- the change is of the whole range
abbrev pub IsWhole : Change → (from len : ℕ) → Type 0
IsWhole change from len = record { begins : change.from ≡ from; ends : change.to ≡ from + len; few : change.missing ≤ len }

-- the range passed its check
abbrev pub IsRange : Geometry → (file from len : ℕ) → Type 0
IsRange g f from len = record { file : f < g.files; some : 1 ≤ len; limit : from + len ≤ g.limit }

-- and the index is in it
abbrev pub InRange : Geometry → (file from len index : ℕ) → Type 0
InRange g f from len i = record { file : f < g.files; above : from ≤ i; below : i < from + len; limit : from + len ≤ g.limit }

-- so it lies below the limit
pub below_limit : (g : Geometry) {f from i : ℕ} (len : ℕ) → InRange g f from len i → i < g.limit
below_limit g len h = let a = h.below in let b = h.limit in omega arith

-- the first index of a good range is in it
pub in_first : (g : Geometry) {f from len : ℕ} → f < g.files → 1 ≤ len → from + len ≤ g.limit → InRange g f from len from
in_first g file some limit = record { file = file; above = omega arith; below = omega arith; limit = limit }

-- so is the next one, short of its end
pub in_next : (g : Geometry) {f from i : ℕ} (len : ℕ) → InRange g f from len i → i + 1 < from + len → InRange g f from len (i + 1)
in_next g len h more = record { file = h.file; above = (let a = h.above in omega arith); below = more; limit = h.limit }

-- the truncation is at that index on its way down; what it evicted, it evicted from `least` on, where all of it is still
-- reserved
abbrev pub InSweep : Geometry → State → Truncation → (index evicted least : ℕ) → Type 0
InSweep g s t i evicted least = record {
  file : t.file < g.files;
  new : t.new ≤ g.limit;
  index : (t.new ≤ i) × (i < g.limit);
  sized : s.size t.file ≡ t.new;
  lost : evicted ≤ count_within (s.reserved t.file) least g.limit;
}

-- room is ready for a mapping, and its virtual pages are clear
abbrev pub IsBased : Geometry → State → (task base len : ℕ) → Type 0
IsBased g s u base len = record { ready : s.ready u ≡ true; fits : fits g.space (s.mappings u) base len ≡ true }

-- the whole range is reserved
abbrev pub IsFilled : State → (file from len : ℕ) → Type 0
IsFilled s f from len = (j : ℕ) → is_within from (from + len) j ≡ true → s.reserved f j ≡ true

-- no task below that one has an entry of the index
abbrev pub ClearedBelow : State → (task file index : ℕ) → Type 0
ClearedBelow s n f i = (t v x : ℕ) → 1 ≤ t → t < n → s.entries t v ≡ Some x → find (s.mappings t) v ≡ Some (f, i) → ⊥

-- the answer tells where the mapping begins
abbrev pub is_mapped : Answer → Bool
is_mapped (answer.Mapped base) = true
is_mapped other = false

-- The shapes of what holds of a call at an index. What it aims at is all
abbrev pub AtIndex : (aim : Type 0) → Type 0
AtIndex A = record { aim : A }

-- the index has no page
abbrev pub AtBare : (aim : Type 0) → State → (file index : ℕ) → Type 0
AtBare A s f i = record { aim : A; bare : s.pages f i ≡ None }

-- and is reserved
abbrev pub AtMarked : (aim : Type 0) → State → (file index : ℕ) → Type 0
AtMarked A s f i = record { aim : A; bare : s.pages f i ≡ None; marked : s.reserved f i ≡ true }

-- and a change of it is in progress; it is reserved if that missed nothing
abbrev pub AtChange : (aim : Type 0) → State → (file index : ℕ) → Change → Type 0
AtChange A s f i change = record {
  aim : A;
  bare : s.pages f i ≡ None;
  one : IsOne change i;
  marked : (change.missing == 0) ≡ true → s.reserved f i ≡ true;
}

-- the same where nobody else may reserve the index: it is reserved only if the change missed nothing
abbrev pub AtOwnChange : (aim : Type 0) → State → (file index : ℕ) → Change → Type 0
AtOwnChange A s f i change = record {
  aim : A;
  bare : s.pages f i ≡ None;
  one : IsOne change i;
  marked : (change.missing == 0) ≡ true → s.reserved f i ≡ true;
  unmarked : (change.missing == 0) ≡ false → s.reserved f i ≡ false;
}

-- the index has a page
abbrev pub AtPage : (aim : Type 0) → State → (file index : ℕ) → Type 0
AtPage A s f i = record { aim : A; cached : s.pages f i ≢ None }

-- and the call has cleared its entries in the tasks below that one
abbrev pub AtClearing : (aim : Type 0) → Geometry → State → (file index task : ℕ) → Type 0
AtClearing A g s f i n = record {
  aim : A;
  cached : s.pages f i ≢ None;
  task : (1 ≤ n) × (n ≤ g.tasks);
  cleared : ClearedBelow s n f i;
}

-- and in all tasks
abbrev pub AtCleared : (aim : Type 0) → Geometry → State → (file index : ℕ) → Type 0
AtCleared A g s f i = record { aim : A; cached : s.pages f i ≢ None; cleared : ClearedBelow s (g.tasks + 1) f i }

-- a map changes its whole range, and counted no less than what is still missing of it
abbrev pub IsCounted : Geometry → State → (task : ℕ) → MapRequest → (base : ℕ) → Change → Type 0
IsCounted g s u m base change = record {
  range : IsRange g m.file m.from m.len;
  based : IsBased g s u base m.len;
  whole : IsWhole change m.from m.len;
  count : missing (s.reserved m.file) m.from (m.from + m.len) ≤ change.missing;
}

-- a mapping begins there, and none of its virtual pages has an entry
abbrev pub IsEmptied : State → (task base : ℕ) → Type 0
IsEmptied s u b = record {
  base : is_base (s.mappings u) b ≡ true;
  empty : (v x : ℕ) → s.entries u v ≡ Some x → in_mapping (s.mappings u) b v ≡ false;
}

-- what an allocation aims at, at an index
abbrev pub alloc_aim : Geometry → Allocation → (index : ℕ) → Type 0
alloc_aim g a i = InRange g a.file a.from a.len i

-- and a punch
abbrev pub punch_aim : Geometry → Hole → (index : ℕ) → Type 0
punch_aim g h i = InRange g h.file h.from h.len i

-- the range of a map passed its check
abbrev pub map_range : Geometry → MapRequest → Type 0
map_range g m = IsRange g m.file m.from m.len

-- what holds of a call beside its slot and its lock, a line a phase
abbrev pub Facts : Geometry → State → (task : ℕ) → Option Call → Type 0
Facts g s u (Some (call.Touch (touch.Want p))) = AtIndex (Aimed g s u p.touch)
Facts g s u (Some (call.Touch (touch.Locked p))) = AtIndex (Aimed g s u p.touch)
Facts g s u (Some (call.Touch (touch.Missing p))) = AtBare (Aimed g s u p.touch) s p.touch.file p.touch.index
Facts g s u (Some (call.Touch (touch.Changed p))) = AtChange (Aimed g s u p.touch) s p.touch.file p.touch.index p.pending
Facts g s u (Some (call.Touch (touch.Abort p))) = AtBare (Aimed g s u p.touch) s p.touch.file p.touch.index
Facts g s u (Some (call.Touch (touch.Taken p))) = AtChange (Aimed g s u p.touch) s p.touch.file p.touch.index p.pending
Facts g s u (Some (call.Touch (touch.Settle p))) = AtMarked (Aimed g s u p.touch) s p.touch.file p.touch.index
Facts g s u (Some (call.Touch (touch.Committed p))) = AtMarked (Aimed g s u p.touch) s p.touch.file p.touch.index
Facts g s u (Some (call.Touch (touch.Restore p))) = AtMarked (Aimed g s u p.touch) s p.touch.file p.touch.index
Facts g s u (Some (call.Touch (touch.Found p))) = AtPage (Aimed g s u p.touch) s p.touch.file p.touch.index
Facts g s u (Some (call.Map (map.Room p))) = record { range : map_range g p.map }
Facts g s u (Some (call.Map (map.Missing p))) = record { range : map_range g p.map; based : IsBased g s u p.base p.map.len }
Facts g s u (Some (call.Map (map.Changed p))) = IsCounted g s u p.map p.base p.pending
Facts g s u (Some (call.Map (map.Abort p))) = record { range : map_range g p.map; unmapped : is_mapped p.answer ≡ false }
Facts g s u (Some (call.Map (map.Accounted p))) = IsCounted g s u p.map p.base p.pending
Facts g s u (Some (call.Map (map.Settle p))) =
    record {
      range : map_range g p.map;
      based : IsBased g s u p.base p.map.len;
      filled : IsFilled s p.map.file p.map.from p.map.len;
      few : p.excess ≤ p.map.len;
    }
Facts g s u (Some (call.Map (map.Enter p))) =
    record {
      range : map_range g p.map;
      based : IsBased g s u p.base p.map.len;
      filled : p.map.reserve ≡ true → IsFilled s p.map.file p.map.from p.map.len;
    }
Facts g s u (Some (call.Map (map.Leave p))) =
    record {
      range : map_range g p.map;
      mapped : is_mapped p.answer ≡ true
          → (p.map.reserve ≡ true → IsFilled s p.map.file p.map.from p.map.len) × (p.map.from + p.map.len ≤ s.size p.map.file);
    }
Facts g s u (Some (call.Alloc (alloc.Head p))) = AtIndex (alloc_aim g p.allocation p.index)
Facts g s u (Some (call.Alloc (alloc.Want p))) = AtIndex (alloc_aim g p.allocation p.index)
Facts g s u (Some (call.Alloc (alloc.Locked p))) = AtIndex (alloc_aim g p.allocation p.index)
Facts g s u (Some (call.Alloc (alloc.Missing p))) = AtBare (alloc_aim g p.allocation p.index) s p.allocation.file p.index
Facts g s u (Some (call.Alloc (alloc.Changed p))) = AtOwnChange (alloc_aim g p.allocation p.index) s p.allocation.file p.index p.pending
Facts g s u (Some (call.Alloc (alloc.Abort p))) = AtBare (alloc_aim g p.allocation p.index) s p.allocation.file p.index
Facts g s u (Some (call.Alloc (alloc.Taken p))) = AtOwnChange (alloc_aim g p.allocation p.index) s p.allocation.file p.index p.pending
Facts g s u (Some (call.Alloc (alloc.Settle p))) = ⊥
Facts g s u (Some (call.Alloc (alloc.Committed p))) = AtMarked (alloc_aim g p.allocation p.index) s p.allocation.file p.index
Facts g s u (Some (call.Alloc (alloc.Restore p))) = AtMarked (alloc_aim g p.allocation p.index) s p.allocation.file p.index
Facts g s u (Some (call.Alloc (alloc.Unslot p))) = AtIndex (alloc_aim g p.allocation p.index)
Facts g s u (Some (call.Alloc (alloc.Extend p))) = record { range : IsRange g p.allocation.file p.allocation.from p.allocation.len }
Facts g s u (Some (call.Alloc (alloc.Leave p))) = record { file : p.allocation.file < g.files }
Facts g s u (Some (call.Punch (punch.Want p))) = AtIndex (punch_aim g p.hole p.index)
Facts g s u (Some (call.Punch (punch.Locked p))) = AtIndex (punch_aim g p.hole p.index)
Facts g s u (Some (call.Punch (punch.Unmap p))) = AtClearing (punch_aim g p.hole p.index) g s p.hole.file p.index p.task
Facts g s u (Some (call.Punch (punch.Evict p))) = AtCleared (punch_aim g p.hole p.index) g s p.hole.file p.index
Facts g s u (Some (call.Punch (punch.Delete p))) = AtMarked (punch_aim g p.hole p.index) s p.hole.file p.index
Facts g s u (Some (call.Punch (punch.Free p))) =
    record {
      aim : punch_aim g p.hole p.index;
      bare : s.pages p.hole.file p.index ≡ None;
      marked : p.denied ≡ true → s.reserved p.hole.file p.index ≡ true;
    }
Facts g s u (Some (call.Punch (punch.Unslot p))) = AtIndex (punch_aim g p.hole p.index)
Facts g s u (Some (call.Punch (punch.Leave p))) = record { file : p.hole.file < g.files }
Facts g s u (Some (call.Truncate (truncate.Size p))) = record { file : p.truncation.file < g.files; new : p.truncation.new ≤ g.limit }
Facts g s u (Some (call.Truncate (truncate.Want p))) = AtIndex (InSweep g s p.truncation p.index p.evicted (p.index + 1))
Facts g s u (Some (call.Truncate (truncate.Locked p))) = AtIndex (InSweep g s p.truncation p.index p.evicted (p.index + 1))
Facts g s u (Some (call.Truncate (truncate.Unmap p))) =
    AtClearing (InSweep g s p.truncation p.index p.evicted (p.index + 1)) g s p.truncation.file p.index p.task
Facts g s u (Some (call.Truncate (truncate.Evict p))) =
    AtCleared (InSweep g s p.truncation p.index p.evicted (p.index + 1)) g s p.truncation.file p.index
Facts g s u (Some (call.Truncate (truncate.Free p))) =
    AtBare (InSweep g s p.truncation p.index p.evicted p.index) s p.truncation.file p.index
Facts g s u (Some (call.Truncate (truncate.Unslot p))) =
    AtBare (InSweep g s p.truncation p.index p.evicted p.index) s p.truncation.file p.index
Facts g s u (Some (call.Truncate (truncate.Tail p))) =
    record {
      file : p.truncation.file < g.files;
      new : p.truncation.new ≤ g.limit;
      sized : s.size p.truncation.file ≡ p.truncation.new;
      lost : p.evicted ≤ count_within (s.reserved p.truncation.file) p.truncation.new g.limit;
    }
Facts g s u (Some (call.Truncate (truncate.Settle p))) =
    record {
      file : p.truncation.file < g.files;
      sized : s.size p.truncation.file ≡ p.truncation.new;
      few : p.excess + p.evicted ≤ g.limit;
    }
Facts g s u (Some (call.Truncate (truncate.Leave p))) =
    record { file : p.truncation.file < g.files; sized : s.size p.truncation.file ≡ p.truncation.new }
Facts g s u (Some (call.Unmap (unmap.Clear p))) = record { base : is_base (s.mappings u) p.base ≡ true }
Facts g s u (Some (call.Unmap (unmap.Drop p))) = IsEmptied s u p.base
Facts g s u (Some (call.Exit (exit.Clear p))) = record { base : is_base (s.mappings u) p.base ≡ true }
Facts g s u (Some (call.Exit (exit.Drop p))) = IsEmptied s u p.base
Facts g s u other = Unit {0}

-- what holds of the call of task u
abbrev pub Stands : Geometry → State → (task : ℕ) → Option Call → Type 0
Stands g s u c = record {
  slot : IfSome (slot_held c) (λ place. HasSlot g s u place.0 place.1);
  lock : IfSome (locked_file c) (λ file. HasLock s u file);
  facts : Facts g s u c;
}
