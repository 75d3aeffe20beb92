-- What a call in flight carries, by the phase in which it stands: one table, a line a phase.
use Rattle.std.specs.Prelude.{ℕ, ◌++◌, ◌∷◌, [], false, List, Some, None, is_some}
use Rattle.hp_base.specs.Numbers.{bit}
use Rattle.hp_region.specs.Change as region
use Rattle.hp_machine.specs.declared.touch.Access.TheVariants.{Load}
use Rattle.hp_machine.specs.declared.touch.Touch.{Touch}
use Rattle.hp_machine.specs.declared.touch.TouchPhase.TheVariants as touch
use Rattle.hp_machine.specs.declared.map.MapRequest.{MapRequest}
use Rattle.hp_machine.specs.declared.map.MapPhase.TheVariants as map
use Rattle.hp_machine.specs.declared.alloc.Allocation.{Allocation}
use Rattle.hp_machine.specs.declared.alloc.AllocPhase.TheVariants as alloc
use Rattle.hp_machine.specs.declared.punch.Hole.{Hole}
use Rattle.hp_machine.specs.declared.punch.PunchPhase.TheVariants as punch
use Rattle.hp_machine.specs.declared.truncate.Truncation.{Truncation}
use Rattle.hp_machine.specs.declared.truncate.TruncatePhase.TheVariants as truncate
use Rattle.hp_machine.specs.declared.unmap.UnmapPhase.TheVariants as unmap
use Rattle.hp_machine.specs.declared.exit.ExitPhase.TheVariants as exit
use Rattle.hp_machine.specs.declared.call.Call.{Call}
use Rattle.hp_machine.specs.declared.call.Call.TheVariants as call
use Rattle.hp_key.specs.declared.carried.Carried.{Carried}
use Rattle.hp_key.specs.declared.carried.Change.{Change}
use Rattle.hp_key.specs.Numbers.{access_words, answer_words, change_words, maybe}

-- a call that carries nothing; the lines below name what it has
abbrev pub at_phase : (operation phase : ℕ) → Carried
at_phase operation phase =
    record {
      operation = operation;
      phase = phase;
      page = 0;
      file = 0;
      from = 0;
      len = 0;
      index = 0;
      task = 0;
      evicted = 0;
      excess = 0;
      flag = false;
      access = Load;
      change = None;
      frame = None;
      answer = None;
    }

-- what all phases of an operation carry, or all that work at an index
abbrev pub in_touch : (phase : ℕ) → Touch → Carried
in_touch n t = record (at_phase 0 n) { page = t.vpn; file = t.file; index = t.index; access = t.access }

abbrev pub in_map : (phase : ℕ) → MapRequest → Carried
in_map n m = record (at_phase 1 n) { file = m.file; from = m.from; len = m.len; flag = m.reserve }

abbrev pub in_alloc : (phase : ℕ) → Allocation → Carried
in_alloc n a = record (at_phase 2 n) { file = a.file; from = a.from; len = a.len; flag = a.keep }

abbrev pub in_alloc_at : (phase : ℕ) → Allocation → (index : ℕ) → Carried
in_alloc_at n a i = record (in_alloc n a) { index = i }

abbrev pub in_punch : (phase : ℕ) → Hole → Carried
in_punch n h = record (at_phase 3 n) { file = h.file; from = h.from; len = h.len }

abbrev pub in_punch_at : (phase : ℕ) → Hole → (index : ℕ) → Carried
in_punch_at n h i = record (in_punch n h) { index = i }

abbrev pub in_truncate : (phase : ℕ) → Truncation → Carried
in_truncate n t = record (at_phase 4 n) { file = t.file; len = t.new }

abbrev pub in_sweep : (phase : ℕ) → Truncation → (index evicted : ℕ) → Carried
in_sweep n t i evicted = record (in_truncate n t) { index = i; evicted = evicted }

abbrev pub in_unmap : (phase base : ℕ) → Carried
in_unmap n base = record (at_phase 5 n) { page = base }

abbrev pub in_exit : (phase base : ℕ) → Carried
in_exit n base = record (at_phase 6 n) { page = base }

-- a change as it is written
abbrev pub change_of : region.Change → Change
change_of c = record { from = c.from; to = c.to; missing = c.missing }

abbrev pub carried : Call → Carried
carried (call.Touch (touch.Look p)) = record (at_phase 0 0) { page = p.vpn; access = p.access }
carried (call.Touch (touch.Want p)) = in_touch 1 p.touch
carried (call.Touch (touch.Locked p)) = in_touch 2 p.touch
carried (call.Touch (touch.Missing p)) = in_touch 3 p.touch
carried (call.Touch (touch.Changed p)) = record (in_touch 4 p.touch) { change = Some (change_of p.pending) }
carried (call.Touch (touch.Abort p)) = record (in_touch 5 p.touch) { change = Some (change_of p.pending); answer = Some p.answer }
carried (call.Touch (touch.Taken p)) = record (in_touch 6 p.touch) { change = Some (change_of p.pending); frame = Some p.held }
carried (call.Touch (touch.Settle p)) = record (in_touch 7 p.touch) { frame = Some p.held }
carried (call.Touch (touch.Committed p)) = record (in_touch 8 p.touch) { frame = Some p.held }
carried (call.Touch (touch.Restore p)) = record (in_touch 9 p.touch) { frame = Some p.held; answer = Some p.answer }
carried (call.Touch (touch.Found p)) = in_touch 10 p.touch
carried (call.Touch (touch.Leave p)) = record (in_touch 11 p.touch) { answer = Some p.answer }
carried (call.Map (map.Start p)) = in_map 0 p.map
carried (call.Map (map.Room p)) = in_map 1 p.map
carried (call.Map (map.Missing p)) = record (in_map 2 p.map) { page = p.base }
carried (call.Map (map.Changed p)) = record (in_map 3 p.map) { page = p.base; change = Some (change_of p.pending) }
carried (call.Map (map.Abort p)) = record (in_map 4 p.map) { change = Some (change_of p.pending); answer = Some p.answer }
carried (call.Map (map.Accounted p)) = record (in_map 5 p.map) { page = p.base; change = Some (change_of p.pending) }
carried (call.Map (map.Settle p)) = record (in_map 6 p.map) { page = p.base; excess = p.excess }
carried (call.Map (map.Enter p)) = record (in_map 7 p.map) { page = p.base }
carried (call.Map (map.Leave p)) = record (in_map 8 p.map) { answer = Some p.answer }
carried (call.Alloc (alloc.Start p)) = in_alloc 0 p.allocation
carried (call.Alloc (alloc.Head p)) = in_alloc_at 1 p.allocation p.index
carried (call.Alloc (alloc.Want p)) = in_alloc_at 2 p.allocation p.index
carried (call.Alloc (alloc.Locked p)) = in_alloc_at 3 p.allocation p.index
carried (call.Alloc (alloc.Missing p)) = in_alloc_at 4 p.allocation p.index
carried (call.Alloc (alloc.Changed p)) = record (in_alloc_at 5 p.allocation p.index) { change = Some (change_of p.pending) }
carried (call.Alloc (alloc.Abort p)) =
    record (in_alloc_at 6 p.allocation p.index) { change = Some (change_of p.pending); answer = Some p.answer }
carried (call.Alloc (alloc.Taken p)) =
    record (in_alloc_at 7 p.allocation p.index) { change = Some (change_of p.pending); frame = Some p.held }
carried (call.Alloc (alloc.Settle p)) = record (in_alloc_at 8 p.allocation p.index) { frame = Some p.held }
carried (call.Alloc (alloc.Committed p)) = record (in_alloc_at 9 p.allocation p.index) { frame = Some p.held }
carried (call.Alloc (alloc.Restore p)) = record (in_alloc_at 10 p.allocation p.index) { frame = Some p.held; answer = Some p.answer }
carried (call.Alloc (alloc.Unslot p)) = record (in_alloc_at 11 p.allocation p.index) { answer = p.answer }
carried (call.Alloc (alloc.Extend p)) = in_alloc 12 p.allocation
carried (call.Alloc (alloc.Leave p)) = record (in_alloc 13 p.allocation) { answer = Some p.answer }
carried (call.Punch (punch.Start p)) = in_punch 0 p.hole
carried (call.Punch (punch.Want p)) = in_punch_at 1 p.hole p.index
carried (call.Punch (punch.Locked p)) = in_punch_at 2 p.hole p.index
carried (call.Punch (punch.Unmap p)) = record (in_punch_at 3 p.hole p.index) { task = p.task }
carried (call.Punch (punch.Evict p)) = in_punch_at 4 p.hole p.index
carried (call.Punch (punch.Delete p)) = record (in_punch_at 5 p.hole p.index) { frame = Some p.held }
carried (call.Punch (punch.Free p)) = record (in_punch_at 6 p.hole p.index) { frame = Some p.held; flag = p.denied }
carried (call.Punch (punch.Unslot p)) = in_punch_at 7 p.hole p.index
carried (call.Punch (punch.Leave p)) = in_punch 8 p.hole
carried (call.Truncate (truncate.Start p)) = in_truncate 0 p.truncation
carried (call.Truncate (truncate.Size p)) = in_truncate 1 p.truncation
carried (call.Truncate (truncate.Want p)) = in_sweep 2 p.truncation p.index p.evicted
carried (call.Truncate (truncate.Locked p)) = in_sweep 3 p.truncation p.index p.evicted
carried (call.Truncate (truncate.Unmap p)) = record (in_sweep 4 p.truncation p.index p.evicted) { task = p.task }
carried (call.Truncate (truncate.Evict p)) = in_sweep 5 p.truncation p.index p.evicted
carried (call.Truncate (truncate.Free p)) = record (in_sweep 6 p.truncation p.index p.evicted) { frame = Some p.held }
carried (call.Truncate (truncate.Unslot p)) = in_sweep 7 p.truncation p.index p.evicted
carried (call.Truncate (truncate.Tail p)) = record (in_truncate 8 p.truncation) { evicted = p.evicted }
carried (call.Truncate (truncate.Settle p)) = record (in_truncate 9 p.truncation) { excess = p.excess; evicted = p.evicted }
carried (call.Truncate (truncate.Leave p)) = in_truncate 10 p.truncation
carried (call.Unmap (unmap.Start p)) = in_unmap 0 p.base
carried (call.Unmap (unmap.Clear p)) = in_unmap 1 p.base
carried (call.Unmap (unmap.Drop p)) = in_unmap 2 p.base
carried (call.Exit exit.Start) = at_phase 6 0
carried (call.Exit (exit.Clear p)) = in_exit 1 p.base
carried (call.Exit (exit.Drop p)) = in_exit 2 p.base
carried (call.Exit exit.Leave) = at_phase 6 3

-- the numbers among what a call carries
abbrev pub carried_numbers : Carried → List ℕ
carried_numbers c =
    c.operation ∷ c.phase ∷ c.page ∷ c.file ∷ c.from ∷ c.len ∷ c.index ∷ c.task ∷ c.evicted ∷ c.excess ∷ bit c.flag ∷ []

-- the words of what it carries: of a frame in its hand, that there is one
abbrev pub carried_words : Carried → List ℕ
carried_words c =
    carried_numbers c
    ++ (access_words c.access ++ (maybe change_words c.change ++ (bit (is_some c.frame) ∷ maybe answer_words c.answer)))

-- the words of a call in flight
abbrev pub call_words : Call → List ℕ
call_words call = carried_words (carried call)
