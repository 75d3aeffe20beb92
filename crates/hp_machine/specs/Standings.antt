-- What a call in flight owes, holds and wants, by the phase in which it stands: one table, a line a phase.
use Rattle.std.specs.Prelude.{ℕ, ◌+◌, ◌==◌, not, Option, Some, None}
use Rattle.hp_base.specs.Numbers.{bit}
use Rattle.hp_region.specs.Change.{Change}
use Rattle.hp_machine.specs.declared.touch.Touch.{Touch}
use Rattle.hp_machine.specs.declared.touch.TouchPhase.TheVariants as touch
use Rattle.hp_machine.specs.declared.map.MapRequest.{MapRequest}
use Rattle.hp_machine.specs.declared.map.MapPhase.TheVariants as map
use Rattle.hp_machine.specs.declared.alloc.Allocation.{Allocation}
use Rattle.hp_machine.specs.declared.alloc.AllocPhase.TheVariants as alloc
use Rattle.hp_machine.specs.declared.punch.Hole.{Hole}
use Rattle.hp_machine.specs.declared.punch.PunchPhase.TheVariants as punch
use Rattle.hp_machine.specs.declared.truncate.Truncation.{Truncation}
use Rattle.hp_machine.specs.declared.truncate.TruncatePhase.TheVariants as truncate
use Rattle.hp_machine.specs.declared.unmap.UnmapPhase.TheVariants as unmap
use Rattle.hp_machine.specs.declared.exit.ExitPhase.TheVariants as exit
use Rattle.hp_machine.specs.declared.call.Call.{Call}
use Rattle.hp_machine.specs.declared.call.Call.TheVariants as call

-- a change of a file's reserve map that the call has in progress: none; one that it counts on; one that it is to abort
pub data Progress : Type 0 where
  NoChange : Progress
  Counts : (file : ℕ) → (change : Change) → Progress
  GivesUp : (file : ℕ) → Progress

-- what the call's next step has to take: nothing; a file's lock; the slot of an index
pub data Want : Type 0 where
  Nothing : Want
  Lock : (file : ℕ) → Want
  Slot : (file index : ℕ) → Want

-- what it does with the page at the index whose slot it holds: nothing yet; there is none, and it makes one; there is
-- one, which it uses; there is one, which it takes away; there is none, which it took away or found so
pub data Work : Type 0 where
  NoWork : Work
  Makes : Work
  Uses : Work
  Removes : Work
  Removed : Work

-- how far a truncation is: at that index, on its way down; past all indices from the new size on; these are out of the
-- reserve map, too
pub data Sweep : Type 0 where
  NoSweep : Sweep
  At : (file index : ℕ) → Sweep
  Past : (file new : ℕ) → Sweep
  Gone : (file new : ℕ) → Sweep

-- `behind` and `ahead` are what the call owes to the reserve count. It is behind what is vacant by the pages that the call
-- took or took away on a reservation, and ahead by the reservations that the call counted for indices which it hasn't
-- entered, or has taken away. The used count is ahead by the indices that are counted and that the call hasn't entered, or
-- has taken away
pub record Standing : Type 0 where
  pub behind : ℕ
  pub ahead : ℕ
  pub used_ahead : ℕ
  pub hand : Option ℕ
  pub change : Progress
  pub lock : Option ℕ
  pub slot : Option (ℕ × ℕ)
  pub wants : Want
  pub work : Work
  pub sweep : Sweep

-- a call that owes, holds and wants nothing; the lines below name what differs
abbrev pub unencumbered : Standing
unencumbered =
    record {
      behind = 0;
      ahead = 0;
      used_ahead = 0;
      hand = None;
      change = NoChange;
      lock = None;
      slot = None;
      wants = Nothing;
      work = NoWork;
      sweep = NoSweep;
    }

-- it holds the slot of its index, the lock of its file, or both
abbrev pub in_touch : Touch → Standing
in_touch t = record unencumbered { slot = Some (t.file, t.index) }

abbrev pub in_map : MapRequest → Standing
in_map m = record unencumbered { lock = Some m.file }

abbrev pub in_alloc : Allocation → Standing
in_alloc a = record unencumbered { lock = Some a.file }

abbrev pub in_alloc_at : Allocation → (index : ℕ) → Standing
in_alloc_at a i = record (in_alloc a) { slot = Some (a.file, i) }

abbrev pub in_punch : Hole → Standing
in_punch h = record unencumbered { lock = Some h.file }

abbrev pub in_punch_at : Hole → (index : ℕ) → Standing
in_punch_at h i = record (in_punch h) { slot = Some (h.file, i) }

abbrev pub in_truncate : Truncation → Standing
in_truncate t = record unencumbered { lock = Some t.file }

-- a truncation on its way down still owes what it evicted
abbrev pub in_sweep : Truncation → (index evicted : ℕ) → Standing
in_sweep t i evicted = record (in_truncate t) { behind = evicted; sweep = At t.file i }

abbrev pub in_sweep_at : Truncation → (index evicted : ℕ) → Standing
in_sweep_at t i evicted = record (in_sweep t i evicted) { slot = Some (t.file, i) }

abbrev pub standing : Call → Standing
standing (call.Touch (touch.Look p)) = unencumbered
standing (call.Touch (touch.Want p)) = record unencumbered { wants = Slot p.touch.file p.touch.index }
standing (call.Touch (touch.Locked p)) = in_touch p.touch
standing (call.Touch (touch.Missing p)) = record (in_touch p.touch) { work = Makes }
standing (call.Touch (touch.Changed p)) = record (in_touch p.touch) { work = Makes; change = Counts p.touch.file p.pending }
standing (call.Touch (touch.Abort p)) = record (in_touch p.touch) { work = Makes; change = GivesUp p.touch.file }
standing (call.Touch (touch.Taken p)) =
    record (in_touch p.touch) {
      work = Makes;
      change = Counts p.touch.file p.pending;
      hand = Some p.held;
      behind = bit (p.pending.missing == 0);
      used_ahead = p.pending.missing;
    }
standing (call.Touch (touch.Settle p)) = record (in_touch p.touch) { work = Makes; hand = Some p.held; used_ahead = 1 }
standing (call.Touch (touch.Committed p)) = record (in_touch p.touch) { work = Makes; hand = Some p.held; behind = 1 }
standing (call.Touch (touch.Restore p)) = record (in_touch p.touch) { work = Makes; hand = Some p.held; behind = 1 }
standing (call.Touch (touch.Found p)) = record (in_touch p.touch) { work = Uses }
standing (call.Touch (touch.Leave p)) = in_touch p.touch
standing (call.Map (map.Start p)) = record unencumbered { wants = Lock p.map.file }
standing (call.Map (map.Room p)) = in_map p.map
standing (call.Map (map.Missing p)) = in_map p.map
standing (call.Map (map.Changed p)) = record (in_map p.map) { change = Counts p.map.file p.pending }
standing (call.Map (map.Abort p)) = record (in_map p.map) { change = GivesUp p.map.file }
standing (call.Map (map.Accounted p)) =
    record (in_map p.map) { change = Counts p.map.file p.pending; ahead = p.pending.missing; used_ahead = p.pending.missing }
standing (call.Map (map.Settle p)) = record (in_map p.map) { ahead = p.excess; used_ahead = p.excess }
standing (call.Map (map.Enter p)) = in_map p.map
standing (call.Map (map.Leave p)) = in_map p.map
standing (call.Alloc (alloc.Start p)) = record unencumbered { wants = Lock p.allocation.file }
standing (call.Alloc (alloc.Head p)) = in_alloc p.allocation
standing (call.Alloc (alloc.Want p)) = record (in_alloc p.allocation) { wants = Slot p.allocation.file p.index }
standing (call.Alloc (alloc.Locked p)) = in_alloc_at p.allocation p.index
standing (call.Alloc (alloc.Missing p)) = record (in_alloc_at p.allocation p.index) { work = Makes }
standing (call.Alloc (alloc.Changed p)) =
    record (in_alloc_at p.allocation p.index) { work = Makes; change = Counts p.allocation.file p.pending }
standing (call.Alloc (alloc.Abort p)) = record (in_alloc_at p.allocation p.index) { work = Makes; change = GivesUp p.allocation.file }
standing (call.Alloc (alloc.Taken p)) =
    record (in_alloc_at p.allocation p.index) {
      work = Makes;
      change = Counts p.allocation.file p.pending;
      hand = Some p.held;
      behind = bit (p.pending.missing == 0);
      used_ahead = p.pending.missing;
    }
standing (call.Alloc (alloc.Settle p)) = record (in_alloc_at p.allocation p.index) { work = Makes; hand = Some p.held; used_ahead = 1 }
standing (call.Alloc (alloc.Committed p)) = record (in_alloc_at p.allocation p.index) { work = Makes; hand = Some p.held; behind = 1 }
standing (call.Alloc (alloc.Restore p)) = record (in_alloc_at p.allocation p.index) { work = Makes; hand = Some p.held; behind = 1 }
standing (call.Alloc (alloc.Unslot p)) = in_alloc_at p.allocation p.index
standing (call.Alloc (alloc.Extend p)) = in_alloc p.allocation
standing (call.Alloc (alloc.Leave p)) = in_alloc p.allocation
standing (call.Punch (punch.Start p)) = record unencumbered { wants = Lock p.hole.file }
standing (call.Punch (punch.Want p)) = record (in_punch p.hole) { wants = Slot p.hole.file p.index }
standing (call.Punch (punch.Locked p)) = in_punch_at p.hole p.index
standing (call.Punch (punch.Unmap p)) = record (in_punch_at p.hole p.index) { work = Removes }
standing (call.Punch (punch.Evict p)) = record (in_punch_at p.hole p.index) { work = Removes }
standing (call.Punch (punch.Delete p)) = record (in_punch_at p.hole p.index) { work = Removed; hand = Some p.held; behind = 1 }
standing (call.Punch (punch.Free p)) =
    record (in_punch_at p.hole p.index) { work = Removed; hand = Some p.held; behind = bit p.denied; used_ahead = bit (not p.denied) }
standing (call.Punch (punch.Unslot p)) = in_punch_at p.hole p.index
standing (call.Punch (punch.Leave p)) = in_punch p.hole
standing (call.Truncate (truncate.Start p)) = record unencumbered { wants = Lock p.truncation.file }
standing (call.Truncate (truncate.Size p)) = in_truncate p.truncation
standing (call.Truncate (truncate.Want p)) = record (in_sweep p.truncation p.index p.evicted) { wants = Slot p.truncation.file p.index }
standing (call.Truncate (truncate.Locked p)) = in_sweep_at p.truncation p.index p.evicted
standing (call.Truncate (truncate.Unmap p)) = record (in_sweep_at p.truncation p.index p.evicted) { work = Removes }
standing (call.Truncate (truncate.Evict p)) = record (in_sweep_at p.truncation p.index p.evicted) { work = Removes }
standing (call.Truncate (truncate.Free p)) = record (in_sweep_at p.truncation p.index p.evicted) { work = Removed; hand = Some p.held }
standing (call.Truncate (truncate.Unslot p)) = record (in_sweep_at p.truncation p.index p.evicted) { work = Removed }
standing (call.Truncate (truncate.Tail p)) =
    record (in_truncate p.truncation) { behind = p.evicted; sweep = Past p.truncation.file p.truncation.new }
standing (call.Truncate (truncate.Settle p)) =
    record (in_truncate p.truncation) {
      ahead = p.excess;
      used_ahead = p.excess + p.evicted;
      sweep = Gone p.truncation.file p.truncation.new;
    }
standing (call.Truncate (truncate.Leave p)) = record (in_truncate p.truncation) { sweep = Gone p.truncation.file p.truncation.new }
standing (call.Unmap (unmap.Start p)) = unencumbered
standing (call.Unmap (unmap.Clear p)) = unencumbered
standing (call.Unmap (unmap.Drop p)) = unencumbered
standing (call.Exit exit.Start) = unencumbered
standing (call.Exit (exit.Clear p)) = unencumbered
standing (call.Exit (exit.Drop p)) = unencumbered
standing (call.Exit exit.Leave) = unencumbered

-- where no call is in flight, nothing is owed, held or wanted
abbrev pub standing_of : Option Call → Standing
standing_of None = unencumbered
standing_of (Some c) = standing c
