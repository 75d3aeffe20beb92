-- A call goes on standing where what it stands on stays.
use Rattle.std.proofs.Common.{◌≡◌, ◌≢◌, ℕ, ◌+◌, ◌≤◌, refl, ap, sym, ◌∙◌, arith, inl, inr, ◌⊎◌}
use Rattle.std.specs.Prelude.{Bool, true, false, Option, Some, None, IfSome, List}
use Rattle.hp_base.specs.Indices.{count_within}
use Rattle.hp_base.specs.Mappings.{find, fits, is_base, in_mapping}
use Rattle.hp_base.specs.declared.mapping.Mapping.{Mapping}
use Rattle.hp_base.proofs.Sets.{missing_fewer, tail_more}
use Rattle.hp_region.specs.Change.{Change}
use Rattle.hp_machine.specs.State.{Geometry, State, slot_of}
use Rattle.hp_machine.specs.Views.{slot_held, locked_file}
use Rattle.hp_machine.specs.declared.touch.Touch.{Touch}
use Rattle.hp_machine.specs.declared.touch.TouchPhase.TheVariants as touch
use Rattle.hp_machine.specs.declared.map.MapRequest.{MapRequest}
use Rattle.hp_machine.specs.declared.map.MapPhase.TheVariants as map
use Rattle.hp_machine.specs.declared.alloc.AllocPhase.TheVariants as alloc
use Rattle.hp_machine.specs.declared.punch.PunchPhase.TheVariants as punch
use Rattle.hp_machine.specs.declared.truncate.Truncation.{Truncation}
use Rattle.hp_machine.specs.declared.truncate.TruncatePhase.TheVariants as truncate
use Rattle.hp_machine.specs.declared.unmap.UnmapPhase.TheVariants as unmap
use Rattle.hp_machine.specs.declared.exit.ExitPhase.TheVariants as exit
use Rattle.hp_machine.specs.declared.call.Call.{Call}
use Rattle.hp_machine.specs.declared.call.Call.TheVariants as call
use Rattle.hp_laws.specs.Sweep.{fills}
use Rattle.hp_laws.proofs.Standing.{HasSlot, HasLock, Aimed, InSweep, IsBased, IsCounted, IsEmptied, ClearedBelow, Facts, Stands}
use Rattle.hp_laws.proofs.Standing.{AtBare, AtMarked, AtChange, AtOwnChange, AtClearing, AtCleared}

-- what stays of files, of which task u's call c may stand on what lies at its slot or under its lock
pub record FilesKeep (g : Geometry) (slots locks locks_after : ℕ → Option ℕ) (size size_after : ℕ → ℕ)
    (reserved reserved_after : ℕ → ℕ → Bool) (pages pages_after : ℕ → ℕ → Option ℕ) (u : ℕ) (c : Option Call) : Type 0 where
  pub page : (f i : ℕ) → slots (slot_of g f i) ≡ Some u → pages_after f i ≡ pages f i
  pub mark : (f i : ℕ) → slots (slot_of g f i) ≡ Some u → (fills c ≡ Some (f, i)) ⊎ (locked_file c ≡ Some f)
      → reserved f i ≡ true → reserved_after f i ≡ true
  pub unmark : (f i : ℕ) → slots (slot_of g f i) ≡ Some u → locks f ≡ Some u → reserved f i ≡ false → reserved_after f i ≡ false
  pub lock : (f : ℕ) → locks f ≡ Some u → (locks_after f ≡ Some u) × (size_after f ≡ size f)
      × ((j : ℕ) → reserved f j ≡ true → reserved_after f j ≡ true)

-- all of it where a step leaves files and locks alone
pub same_files : {g : Geometry} {slots locks : ℕ → Option ℕ} {size : ℕ → ℕ} {reserved : ℕ → ℕ → Bool} {pages : ℕ → ℕ → Option ℕ}
    {u : ℕ} {c : Option Call}
    → FilesKeep g slots locks locks size size reserved reserved pages pages u c
same_files = record { page = λ f i a. refl; mark = λ f i a w r. r; unmark = λ f i a b r. r; lock = λ f a. (a, refl, λ j r. r) }

-- what stays of tasks: what is translated at the slot, and task u's own mappings and entries
pub record TablesKeep (g : Geometry) (slots : ℕ → Option ℕ) (mappings_before mappings_after : ℕ → List Mapping)
    (prepared prepared_after : ℕ → Bool) (table table_after : ℕ → ℕ → Option ℕ) (u : ℕ) : Type 0 where
  pub translated : (f i : ℕ) → slots (slot_of g f i) ≡ Some u → (t v x : ℕ) → table_after t v ≡ Some x
      → find (mappings_after t) v ≡ Some (f, i) → (y : ℕ) × (table t v ≡ Some y) × (find (mappings_before t) v ≡ Some (f, i))
  pub mappings : mappings_after u ≡ mappings_before u
  pub ready : prepared_after u ≡ prepared u
  pub entries : (v x : ℕ) → table_after u v ≡ Some x → (y : ℕ) × (table u v ≡ Some y)

-- all of it where a step leaves mappings and entries alone
pub same_tables : {g : Geometry} {slots : ℕ → Option ℕ} {mappings : ℕ → List Mapping} {ready : ℕ → Bool} {entries : ℕ → ℕ → Option ℕ}
    {u : ℕ}
    → TablesKeep g slots mappings mappings ready ready entries entries u
same_tables = record { translated = λ f i a t v x p q. (x, p, q); mappings = refl; ready = refl; entries = λ v x p. (x, p) }

-- what stays, from s to n, of what the task's call c may stand on
pub record Keeps (g : Geometry) (s n : State) (u : ℕ) (c : Option Call) : Type 0 where
  pub slot : (k : ℕ) → s.slots k ≡ Some u → n.slots k ≡ Some u
  pub files : FilesKeep g s.slots s.locks n.locks s.size n.size s.reserved n.reserved s.pages n.pages u c
  pub open files use *
  pub tables : TablesKeep g s.slots s.mappings n.mappings s.ready n.ready s.entries n.entries u
  pub open tables use *

-- an entry that isn't there stays so where no entry comes
none_still : (a b : Option ℕ) → ((x : ℕ) → b ≡ Some x → (y : ℕ) × (a ≡ Some y)) → a ≡ None → b ≡ None
none_still a None f e = refl
none_still a (Some x) f e = let o = f x refl in let d : ◌≡◌ {A = Option ℕ} None (Some o.0) = sym e ∙ o.1 in absurd (cc)

-- What a call aims at, what it has at its index, and each other shape of its facts stay, one lemma a shape. Where a
-- touch aims
aimed_after : {g : Geometry} {s n : State} {u : ℕ} {c : Option Call} (touch : Touch) → Keeps g s n u c → Aimed g s u touch
    → Aimed g n u touch
aimed_after {g} {s} {n} {u} touch k h = record {
  found = ap (λ (m : List Mapping). find m touch.vpn) k.mappings ∙ h.found;
  file = h.file;
  index = h.index;
  untranslated = none_still (s.entries u touch.vpn) (n.entries u touch.vpn) (λ x d. k.entries touch.vpn x d) h.untranslated;
}

-- what a truncation evicted is still reserved where it holds the lock
lost_after : {g : Geometry} {s n : State} {u : ℕ} {c : Option Call} (f evicted least : ℕ) → Keeps g s n u c → HasLock s u f
    → evicted ≤ count_within (s.reserved f) least g.limit → evicted ≤ count_within (n.reserved f) least g.limit
lost_after {g} {s} {n} f evicted least k lock h =
    let w = tail_more g.limit least (s.reserved f) (n.reserved f) (k.lock f lock).2 in omega arith

-- where a truncation is on its way down: its lock keeps the size, and that what it evicted is reserved
sweep_after : {g : Geometry} {s n : State} {u : ℕ} {c : Option Call} (t : Truncation) (i evicted least : ℕ) → Keeps g s n u c
    → HasLock s u t.file → InSweep g s t i evicted least → InSweep g n t i evicted least
sweep_after {g} {s} {n} t i evicted least k lock h = record {
  file = h.file;
  new = h.new;
  index = h.index;
  sized = (k.lock t.file lock).1 ∙ h.sized;
  lost = lost_after t.file evicted least k lock h.lost;
}

-- the room that a map found
based_after : {g : Geometry} {s n : State} {u : ℕ} {c : Option Call} (base len : ℕ) → Keeps g s n u c → IsBased g s u base len
    → IsBased g n u base len
based_after {g} base len k h =
    record { ready = k.ready ∙ h.ready; fits = ap (λ (m : List Mapping). fits g.space m base len) k.mappings ∙ h.fits }

-- what a map counted
counted_after : {g : Geometry} {s n : State} {u : ℕ} {c : Option Call} (m : MapRequest) (base : ℕ) (change : Change)
    → Keeps g s n u c → HasLock s u m.file → IsCounted g s u m base change → IsCounted g n u m base change
counted_after {g} {s} {n} m base change k lock h = record {
  range = h.range;
  based = based_after base m.len k h.based;
  whole = h.whole;
  count = (let w = missing_fewer (s.reserved m.file) (n.reserved m.file) m.from (m.from + m.len) (k.lock m.file lock).2 in
      let z = h.count in omega arith);
}

-- a mapping that has no entries
emptied_after : {g : Geometry} {s n : State} {u : ℕ} {c : Option Call} (base : ℕ) → Keeps g s n u c → IsEmptied s u base
    → IsEmptied n u base
emptied_after base k h = record {
  base = ap (λ (m : List Mapping). is_base m base) k.mappings ∙ h.base;
  empty = λ v x d. let o = k.entries v x d in ap (λ (m : List Mapping). in_mapping m base v) k.mappings ∙ h.empty v o.0 o.1;
}

-- an index without a page
bare_after : {g : Geometry} {s n : State} {u : ℕ} {c : Option Call} {A B : Type 0} (f i : ℕ) → Keeps g s n u c → HasSlot g s u f i
    → B → AtBare A s f i → AtBare B n f i
bare_after f i k held aim h = record { aim = aim; bare = k.page f i held ∙ h.bare }

-- and reserved
marked_after : {g : Geometry} {s n : State} {u : ℕ} {c : Option Call} {A B : Type 0} (f i : ℕ) → Keeps g s n u c → HasSlot g s u f i
    → (fills c ≡ Some (f, i)) ⊎ (locked_file c ≡ Some f) → B → AtMarked A s f i → AtMarked B n f i
marked_after f i k held counts aim h =
    record { aim = aim; bare = k.page f i held ∙ h.bare; marked = k.mark f i held counts h.marked }

-- and being changed
change_after : {g : Geometry} {s n : State} {u : ℕ} {c : Option Call} {A B : Type 0} (f i : ℕ) (change : Change) → Keeps g s n u c
    → HasSlot g s u f i → (fills c ≡ Some (f, i)) ⊎ (locked_file c ≡ Some f) → B → AtChange A s f i change → AtChange B n f i change
change_after f i change k held counts aim h = record {
  aim = aim;
  bare = k.page f i held ∙ h.bare;
  one = h.one;
  marked = λ d. k.mark f i held counts (h.marked d);
}

-- and by the one call that may reserve it
own_change_after : {g : Geometry} {s n : State} {u : ℕ} {c : Option Call} {A B : Type 0} (f i : ℕ) (change : Change) → Keeps g s n u c
    → HasSlot g s u f i → HasLock s u f → locked_file c ≡ Some f → B → AtOwnChange A s f i change → AtOwnChange B n f i change
own_change_after f i change k held lock locked aim h = record {
  aim = aim;
  bare = k.page f i held ∙ h.bare;
  one = h.one;
  marked = λ d. k.mark f i held (inr locked) (h.marked d);
  unmarked = λ d. k.unmark f i held lock (h.unmarked d);
}

-- an index with a page
page_after : {g : Geometry} {s n : State} {u : ℕ} {c : Option Call} (f i : ℕ) → Keeps g s n u c → HasSlot g s u f i
    → s.pages f i ≢ None → n.pages f i ≢ None
page_after f i k held cached = λ d. cached (sym (k.page f i held) ∙ d)

-- and whose entries are cleared in the tasks below one
below_after : {g : Geometry} {s n : State} {u : ℕ} {c : Option Call} (m f i : ℕ) → Keeps g s n u c → HasSlot g s u f i
    → ClearedBelow s m f i → ClearedBelow n m f i
below_after m f i k held h t v x a b d e = let o = k.translated f i held t v x d e in h t v o.0 a b o.1 o.2

-- while it clears them
clearing_after : {g : Geometry} {s n : State} {u : ℕ} {c : Option Call} {A B : Type 0} (f i m : ℕ) → Keeps g s n u c
    → HasSlot g s u f i → B → AtClearing A g s f i m → AtClearing B g n f i m
clearing_after f i m k held aim h = record {
  aim = aim;
  cached = page_after f i k held h.cached;
  task = h.task;
  cleared = below_after m f i k held h.cleared;
}

-- and when it has
cleared_after : {g : Geometry} {s n : State} {u : ℕ} {c : Option Call} {A B : Type 0} (f i : ℕ) → Keeps g s n u c
    → HasSlot g s u f i → B → AtCleared A g s f i → AtCleared B g n f i
cleared_after {g} f i k held aim h =
    record { aim = aim; cached = page_after f i k held h.cached; cleared = below_after (g.tasks + 1) f i k held h.cleared }

-- what is said beside the slot and the lock stays, a line a phase
facts_after : (g : Geometry) (s n : State) (u : ℕ) (c : Option Call) → Keeps g s n u c → Stands g s u c → Facts g n u c
facts_after g s n u None k h = tt
facts_after g s n u (Some (call.Touch (touch.Look p))) k h = tt
facts_after g s n u (Some (call.Touch (touch.Want p))) k h = record { aim = aimed_after p.touch k h.facts.aim }
facts_after g s n u (Some (call.Touch (touch.Locked p))) k h = record { aim = aimed_after p.touch k h.facts.aim }
facts_after g s n u (Some (call.Touch (touch.Missing p))) k h =
    bare_after p.touch.file p.touch.index k h.slot (aimed_after p.touch k h.facts.aim) h.facts
facts_after g s n u (Some (call.Touch (touch.Changed p))) k h =
    change_after p.touch.file p.touch.index p.pending k h.slot (inl refl) (aimed_after p.touch k h.facts.aim) h.facts
facts_after g s n u (Some (call.Touch (touch.Abort p))) k h =
    bare_after p.touch.file p.touch.index k h.slot (aimed_after p.touch k h.facts.aim) h.facts
facts_after g s n u (Some (call.Touch (touch.Taken p))) k h =
    change_after p.touch.file p.touch.index p.pending k h.slot (inl refl) (aimed_after p.touch k h.facts.aim) h.facts
facts_after g s n u (Some (call.Touch (touch.Settle p))) k h =
    marked_after p.touch.file p.touch.index k h.slot (inl refl) (aimed_after p.touch k h.facts.aim) h.facts
facts_after g s n u (Some (call.Touch (touch.Committed p))) k h =
    marked_after p.touch.file p.touch.index k h.slot (inl refl) (aimed_after p.touch k h.facts.aim) h.facts
facts_after g s n u (Some (call.Touch (touch.Restore p))) k h =
    marked_after p.touch.file p.touch.index k h.slot (inl refl) (aimed_after p.touch k h.facts.aim) h.facts
facts_after g s n u (Some (call.Touch (touch.Found p))) k h =
    record { aim = aimed_after p.touch k h.facts.aim; cached = page_after p.touch.file p.touch.index k h.slot h.facts.cached }
facts_after g s n u (Some (call.Touch (touch.Leave p))) k h = tt
facts_after g s n u (Some (call.Map (map.Start p))) k h = tt
facts_after g s n u (Some (call.Map (map.Room p))) k h = h.facts
facts_after g s n u (Some (call.Map (map.Missing p))) k h =
    record { range = h.facts.range; based = based_after p.base p.map.len k h.facts.based }
facts_after g s n u (Some (call.Map (map.Changed p))) k h = counted_after p.map p.base p.pending k h.lock h.facts
facts_after g s n u (Some (call.Map (map.Abort p))) k h = h.facts
facts_after g s n u (Some (call.Map (map.Accounted p))) k h = counted_after p.map p.base p.pending k h.lock h.facts
facts_after g s n u (Some (call.Map (map.Settle p))) k h =
    record {
      range = h.facts.range;
      based = based_after p.base p.map.len k h.facts.based;
      filled = λ j w. (k.lock p.map.file h.lock).2 j (h.facts.filled j w);
      few = h.facts.few;
    }
facts_after g s n u (Some (call.Map (map.Enter p))) k h =
    record {
      range = h.facts.range;
      based = based_after p.base p.map.len k h.facts.based;
      filled = λ r j w. (k.lock p.map.file h.lock).2 j (h.facts.filled r j w);
    }
facts_after g s n u (Some (call.Map (map.Leave p))) k h =
    record {
      range = h.facts.range;
      mapped = λ d. (
        λ r j w. (k.lock p.map.file h.lock).2 j ((h.facts.mapped d).0 r j w),
        (let a = (h.facts.mapped d).1 in let z = (k.lock p.map.file h.lock).1 in omega arith),
      );
    }
facts_after g s n u (Some (call.Alloc (alloc.Start p))) k h = tt
facts_after g s n u (Some (call.Alloc (alloc.Head p))) k h = h.facts
facts_after g s n u (Some (call.Alloc (alloc.Want p))) k h = h.facts
facts_after g s n u (Some (call.Alloc (alloc.Locked p))) k h = h.facts
facts_after g s n u (Some (call.Alloc (alloc.Missing p))) k h = bare_after p.allocation.file p.index k h.slot h.facts.aim h.facts
facts_after g s n u (Some (call.Alloc (alloc.Changed p))) k h =
    own_change_after p.allocation.file p.index p.pending k h.slot h.lock refl h.facts.aim h.facts
facts_after g s n u (Some (call.Alloc (alloc.Abort p))) k h = bare_after p.allocation.file p.index k h.slot h.facts.aim h.facts
facts_after g s n u (Some (call.Alloc (alloc.Taken p))) k h =
    own_change_after p.allocation.file p.index p.pending k h.slot h.lock refl h.facts.aim h.facts
facts_after g s n u (Some (call.Alloc (alloc.Settle p))) k h = h.facts
facts_after g s n u (Some (call.Alloc (alloc.Committed p))) k h =
    marked_after p.allocation.file p.index k h.slot (inr refl) h.facts.aim h.facts
facts_after g s n u (Some (call.Alloc (alloc.Restore p))) k h =
    marked_after p.allocation.file p.index k h.slot (inr refl) h.facts.aim h.facts
facts_after g s n u (Some (call.Alloc (alloc.Unslot p))) k h = h.facts
facts_after g s n u (Some (call.Alloc (alloc.Extend p))) k h = h.facts
facts_after g s n u (Some (call.Alloc (alloc.Leave p))) k h = h.facts
facts_after g s n u (Some (call.Punch (punch.Start p))) k h = tt
facts_after g s n u (Some (call.Punch (punch.Want p))) k h = h.facts
facts_after g s n u (Some (call.Punch (punch.Locked p))) k h = h.facts
facts_after g s n u (Some (call.Punch (punch.Unmap p))) k h = clearing_after p.hole.file p.index p.task k h.slot h.facts.aim h.facts
facts_after g s n u (Some (call.Punch (punch.Evict p))) k h = cleared_after p.hole.file p.index k h.slot h.facts.aim h.facts
facts_after g s n u (Some (call.Punch (punch.Delete p))) k h = marked_after p.hole.file p.index k h.slot (inr refl) h.facts.aim h.facts
facts_after g s n u (Some (call.Punch (punch.Free p))) k h =
    record {
      aim = h.facts.aim;
      bare = k.page p.hole.file p.index h.slot ∙ h.facts.bare;
      marked = λ d. k.mark p.hole.file p.index h.slot (inr refl) (h.facts.marked d);
    }
facts_after g s n u (Some (call.Punch (punch.Unslot p))) k h = h.facts
facts_after g s n u (Some (call.Punch (punch.Leave p))) k h = h.facts
facts_after g s n u (Some (call.Truncate (truncate.Start p))) k h = tt
facts_after g s n u (Some (call.Truncate (truncate.Size p))) k h = h.facts
facts_after g s n u (Some (call.Truncate (truncate.Want p))) k h =
    record { aim = sweep_after p.truncation p.index p.evicted (p.index + 1) k h.lock h.facts.aim }
facts_after g s n u (Some (call.Truncate (truncate.Locked p))) k h =
    record { aim = sweep_after p.truncation p.index p.evicted (p.index + 1) k h.lock h.facts.aim }
facts_after g s n u (Some (call.Truncate (truncate.Unmap p))) k h =
    clearing_after p.truncation.file p.index p.task k h.slot
    (sweep_after p.truncation p.index p.evicted (p.index + 1) k h.lock h.facts.aim) h.facts
facts_after g s n u (Some (call.Truncate (truncate.Evict p))) k h =
    cleared_after p.truncation.file p.index k h.slot
    (sweep_after p.truncation p.index p.evicted (p.index + 1) k h.lock h.facts.aim) h.facts
facts_after g s n u (Some (call.Truncate (truncate.Free p))) k h =
    bare_after p.truncation.file p.index k h.slot (sweep_after p.truncation p.index p.evicted p.index k h.lock h.facts.aim) h.facts
facts_after g s n u (Some (call.Truncate (truncate.Unslot p))) k h =
    bare_after p.truncation.file p.index k h.slot (sweep_after p.truncation p.index p.evicted p.index k h.lock h.facts.aim) h.facts
facts_after g s n u (Some (call.Truncate (truncate.Tail p))) k h =
    record {
      file = h.facts.file;
      new = h.facts.new;
      sized = (k.lock p.truncation.file h.lock).1 ∙ h.facts.sized;
      lost = lost_after p.truncation.file p.evicted p.truncation.new k h.lock h.facts.lost;
    }
facts_after g s n u (Some (call.Truncate (truncate.Settle p))) k h =
    record { file = h.facts.file; sized = (k.lock p.truncation.file h.lock).1 ∙ h.facts.sized; few = h.facts.few }
facts_after g s n u (Some (call.Truncate (truncate.Leave p))) k h =
    record { file = h.facts.file; sized = (k.lock p.truncation.file h.lock).1 ∙ h.facts.sized }
facts_after g s n u (Some (call.Unmap (unmap.Start p))) k h = tt
facts_after g s n u (Some (call.Unmap (unmap.Clear p))) k h =
    record { base = ap (λ (m : List Mapping). is_base m p.base) k.mappings ∙ h.facts.base }
facts_after g s n u (Some (call.Unmap (unmap.Drop p))) k h = emptied_after p.base k h.facts
facts_after g s n u (Some (call.Exit exit.Start)) k h = tt
facts_after g s n u (Some (call.Exit (exit.Clear p))) k h =
    record { base = ap (λ (m : List Mapping). is_base m p.base) k.mappings ∙ h.facts.base }
facts_after g s n u (Some (call.Exit (exit.Drop p))) k h = emptied_after p.base k h.facts
facts_after g s n u (Some (call.Exit exit.Leave)) k h = tt

-- the slot that a call holds, if it does
slot_after : {g : Geometry} {s n : State} {u : ℕ} {c : Option Call} (o : Option (ℕ × ℕ)) → Keeps g s n u c
    → IfSome o (λ place. HasSlot g s u place.0 place.1) → IfSome o (λ place. HasSlot g n u place.0 place.1)
slot_after None k h = tt
slot_after (Some place) k h = k.slot _ h

-- and the lock
lock_after : {g : Geometry} {s n : State} {u : ℕ} {c : Option Call} (o : Option ℕ) → Keeps g s n u c
    → IfSome o (λ file. HasLock s u file) → IfSome o (λ file. HasLock n u file)
lock_after None k h = tt
lock_after (Some file) k h = (k.lock file h).0

-- so all that a call stands on
pub stands_after : (g : Geometry) (s n : State) (u : ℕ) (c : Option Call) → Keeps g s n u c → Stands g s u c → Stands g n u c
stands_after g s n u c k h = record {
  slot = slot_after (slot_held c) k h.slot;
  lock = lock_after (locked_file c) k h.lock;
  facts = facts_after g s n u c k h;
}
