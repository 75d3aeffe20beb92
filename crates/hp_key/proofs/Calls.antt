-- The words of a call tell the call but for the name of a frame in its hand: what it carries is read back from the words, and the phase from
-- what it carries.
use Rattle.std.proofs.Common.{◌≡◌, ◌∙◌, ℕ, ◌++◌, ◌∷◌, [], List, refl, sym, ap, arith}
use Rattle.std.specs.Prelude.{◌==◌, Bool, Option, Some, None, if◌then◌else◌, is_some}
use Rattle.std.specs.Option.{option_map, unwrap_or}
use Rattle.std.proofs.lemmas.List.{map-id}
use Rattle.hp_base.specs.Numbers.{bit}
use Rattle.hp_base.specs.declared.answer.Answer.{Answer}
use Rattle.hp_base.specs.declared.answer.Answer.TheVariants as answer
use Rattle.hp_region.specs.Change as region
use Rattle.hp_machine.specs.Views.{hand}
use Rattle.hp_machine.specs.declared.touch.Access.{Access}
use Rattle.hp_machine.specs.declared.touch.Access.TheVariants.{Load, Store}
use Rattle.hp_machine.specs.declared.touch.Touch.{Touch}
use Rattle.hp_machine.specs.declared.touch.TouchPhase.{TouchPhase}
use Rattle.hp_machine.specs.declared.touch.TouchPhase.TheVariants as touch
use Rattle.hp_machine.specs.declared.map.MapRequest.{MapRequest}
use Rattle.hp_machine.specs.declared.map.MapPhase.{MapPhase}
use Rattle.hp_machine.specs.declared.map.MapPhase.TheVariants as map
use Rattle.hp_machine.specs.declared.alloc.Allocation.{Allocation}
use Rattle.hp_machine.specs.declared.alloc.AllocPhase.{AllocPhase}
use Rattle.hp_machine.specs.declared.alloc.AllocPhase.TheVariants as alloc
use Rattle.hp_machine.specs.declared.punch.Hole.{Hole}
use Rattle.hp_machine.specs.declared.punch.PunchPhase.{PunchPhase}
use Rattle.hp_machine.specs.declared.punch.PunchPhase.TheVariants as punch
use Rattle.hp_machine.specs.declared.truncate.Truncation.{Truncation}
use Rattle.hp_machine.specs.declared.truncate.TruncatePhase.{TruncatePhase}
use Rattle.hp_machine.specs.declared.truncate.TruncatePhase.TheVariants as truncate
use Rattle.hp_machine.specs.declared.unmap.UnmapPhase.{UnmapPhase}
use Rattle.hp_machine.specs.declared.unmap.UnmapPhase.TheVariants as unmap
use Rattle.hp_machine.specs.declared.exit.ExitPhase.{ExitPhase}
use Rattle.hp_machine.specs.declared.exit.ExitPhase.TheVariants as exit
use Rattle.hp_machine.specs.declared.call.Call.{Call}
use Rattle.hp_machine.specs.declared.call.Call.TheVariants as call
use Rattle.hp_machine.specs.declared.outcome.Life.{Life}
use Rattle.hp_machine.specs.declared.outcome.Life.TheVariants.{Alive, Killed, Dead}
use Rattle.hp_sequential.specs.Renaming.{alloc_renamed, call_renamed, punch_renamed, touch_renamed, truncate_renamed}
use Rattle.hp_key.specs.declared.carried.Carried.{Carried}
use Rattle.hp_key.specs.declared.carried.Change.{Change}
use Rattle.hp_key.specs.Numbers.{access_words, answer_number, answer_value, answer_words, change_words, counted, life_number, maybe}
use Rattle.hp_key.specs.Numbers.{wide}
use Rattle.hp_key.specs.Carried.{call_words, carried, carried_words}
use Rattle.hp_key.proofs.Tells.{Own, Tells, cons_same, tells_at, tells_both, tells_counted, tells_flag, tells_maybe, tells_number}
use Rattle.hp_key.proofs.Tells.{tells_then, tells_wide}

-- ---- lists and what may be there, of things that their words tell

option_map-id : {A : Type 0} (o : Option A) → option_map (λ (a : A). a) o ≡ o
option_map-id None = refl
option_map-id (Some a) = refl

pub own_maybe : {A : Type 0} {words : A → List ℕ} → Own words → Own (maybe words)
own_maybe t = record {
  tells = λ a b ss ts e. (
      let x = (tells_maybe t).tells a b ss ts e in
      (sym (option_map-id a) ∙ (x.0 ∙ option_map-id b), x.1));
}

pub own_counted : {A : Type 0} {words : A → List ℕ} → Own words → Own (counted words)
own_counted t = record {
  tells = λ a b ss ts e. (
      let x = (tells_counted t).tells a b ss ts e in
      (sym (map-id a) ∙ (x.0 ∙ map-id b), x.1));
}

-- what is read back from what words tell, they tell
pub own_back : {A B : Type 0} {words : A → List ℕ} (f : A → B) (back : B → A) → ((a : A) → back (f a) ≡ a) → Tells words words f f
    → Own words
own_back f back is t = record {
  tells = λ a b ss ts e. (
      let x = t.tells a b ss ts e in
      (sym (is a) ∙ (ap back x.0 ∙ is b), x.1));
}

-- ---- what a call carries

own_access : Own access_words
own_access = record { tells = by }
  where
    by : (a b : Access) (ss ts : List ℕ) → access_words a ++ ss ≡ access_words b ++ ts → (a ≡ b) × (ss ≡ ts)
    by Load Load ss ts e = (refl, (cons_same 0 0 ss ts e).1)
    by Load (Store w) ss ts e = absurd (omega (arith, (cons_same 0 1 ss (wide w ++ ts) e).0))
    by (Store w) Load ss ts e = absurd (omega (arith, (cons_same 1 0 (wide w ++ ss) ts e).0))
    by (Store w) (Store v) ss ts e =
        let x = tells_wide.tells w v ss ts (cons_same 1 1 (wide w ++ ss) (wide v ++ ts) e).1 in
        (ap Store x.0, x.1)

own_change : Own change_words
own_change =
    own_back {words = change_words} (λ (c : Change). (c.from, (c.to, c.missing)))
    (λ (p : ℕ × (ℕ × ℕ)). record { from = p.0; to = p.1.0; missing = p.1.1 }) (λ c. refl)
    (tells_then (λ (c : Change). c.from) (tells_then (λ (c : Change). c.to) (tells_at (λ (c : Change). c.missing) tells_number)))

-- the answer of that number, with what it names
abbrev answer_named : ℕ × ℕ → Answer
answer_named p =
    if p.0 == 0 then answer.Mapped p.1
    else if p.0 == 1 then answer.Word p.1
    else if p.0 == 2 then answer.Done
    else if p.0 == 3 then answer.Segv
    else if p.0 == 4 then answer.Beyond
    else if p.0 == 5 then answer.NoFrame
    else if p.0 == 6 then answer.NoQuota
    else if p.0 == 7 then answer.NoMemory
    else if p.0 == 8 then answer.Interrupted
    else if p.0 == 9 then answer.Killed
    else if p.0 == 10 then answer.BadFile
    else if p.0 == 11 then answer.BadRange
    else if p.0 == 12 then answer.NotMapped
    else answer.NoAddress

answer_back : (a : Answer) → answer_named (answer_number a, answer_value a) ≡ a
answer_back (answer.Mapped base) = refl
answer_back (answer.Word word) = refl
answer_back answer.Done = refl
answer_back answer.Segv = refl
answer_back answer.Beyond = refl
answer_back answer.NoFrame = refl
answer_back answer.NoQuota = refl
answer_back answer.NoMemory = refl
answer_back answer.Interrupted = refl
answer_back answer.Killed = refl
answer_back answer.BadFile = refl
answer_back answer.BadRange = refl
answer_back answer.NotMapped = refl
answer_back answer.NoAddress = refl

-- an answer is told by its words
pub own_answer : Own answer_words
own_answer =
    own_back {words = answer_words} (λ (a : Answer). (answer_number a, answer_value a)) answer_named answer_back
    (tells_then answer_number (tells_at answer_value tells_wide))

-- what stands behind the numbers
abbrev Rest : Type 0
Rest = Access × (Option Change × (Bool × Option Answer))

rest_words : Carried → List ℕ
rest_words c = access_words c.access ++ (maybe change_words c.change ++ (bit (is_some c.frame) ∷ maybe answer_words c.answer))

abbrev rest_of : Carried → Rest
rest_of c = (c.access, (c.change, (is_some c.frame, c.answer)))

tells_rest : Tells rest_words rest_words rest_of rest_of
unfolding rest_words
tells_rest =
    tells_both (tells_at (λ (c : Carried). c.access) own_access)
    (tells_both (tells_at (λ (c : Carried). c.change) (own_maybe own_change))
    (tells_both (tells_at (λ (c : Carried). is_some c.frame) tells_flag)
    (tells_at (λ (c : Carried). c.answer) (own_maybe own_answer))))

-- all of it but the name of the frame, one behind the other
abbrev pub Fields : Type 0
Fields = ℕ × (ℕ × (ℕ × (ℕ × (ℕ × (ℕ × (ℕ × (ℕ × (ℕ × (ℕ × (Bool × Rest))))))))))

abbrev fields_of : Carried → Fields
fields_of c =
    (c.operation, (c.phase, (c.page, (c.file, (c.from, (c.len, (c.index, (c.task, (c.evicted, (c.excess, (c.flag, rest_of c)))))))))))

-- with the frame it is all
abbrev carried_of : Fields → (frame : Option ℕ) → Carried
carried_of p frame =
    record {
      operation = p.0;
      phase = p.1.0;
      page = p.1.1.0;
      file = p.1.1.1.0;
      from = p.1.1.1.1.0;
      len = p.1.1.1.1.1.0;
      index = p.1.1.1.1.1.1.0;
      task = p.1.1.1.1.1.1.1.0;
      evicted = p.1.1.1.1.1.1.1.1.0;
      excess = p.1.1.1.1.1.1.1.1.1.0;
      flag = p.1.1.1.1.1.1.1.1.1.1.0;
      access = p.1.1.1.1.1.1.1.1.1.1.1.0;
      change = p.1.1.1.1.1.1.1.1.1.1.1.1.0;
      frame = frame;
      answer = p.1.1.1.1.1.1.1.1.1.1.1.1.1.1;
    }

tells_fields : Tells carried_words carried_words fields_of fields_of
unfolding rest_words
tells_fields =
    tells_then (λ (c : Carried). c.operation) (tells_then (λ (c : Carried). c.phase) (tells_then (λ (c : Carried). c.page)
    (tells_then (λ (c : Carried). c.file) (tells_then (λ (c : Carried). c.from) (tells_then (λ (c : Carried). c.len)
    (tells_then (λ (c : Carried). c.index) (tells_then (λ (c : Carried). c.task) (tells_then (λ (c : Carried). c.evicted)
    (tells_then (λ (c : Carried). c.excess) (tells_both (tells_at (λ (c : Carried). c.flag) tells_flag) tells_rest))))))))))

-- ---- the phase that carries it

abbrev touch_of : Carried → Touch
touch_of c = record { vpn = c.page; access = c.access; file = c.file; index = c.index }

abbrev map_of : Carried → MapRequest
map_of c = record { reserve = c.flag; file = c.file; from = c.from; len = c.len }

abbrev allocation_of : Carried → Allocation
allocation_of c = record { file = c.file; from = c.from; len = c.len; keep = c.flag }

abbrev hole_of : Carried → Hole
hole_of c = record { file = c.file; from = c.from; len = c.len }

abbrev truncation_of : Carried → Truncation
truncation_of c = record { file = c.file; new = c.len }

-- a change as the machine has it
abbrev pending_in : Option Change → region.Change
pending_in None = record { from = 0; to = 0; missing = 0 }
pending_in (Some c) = record { from = c.from; to = c.to; missing = c.missing }

abbrev pending_of : Carried → region.Change
pending_of c = pending_in c.change

abbrev held_of : Carried → ℕ
held_of c = unwrap_or c.frame 0

abbrev answer_of : Carried → Answer
answer_of c = unwrap_or c.answer answer.Done

abbrev touch_back : Carried → TouchPhase
touch_back c =
    if c.phase == 0 then touch.Look (record { vpn = c.page; access = c.access })
    else if c.phase == 1 then touch.Want (record { touch = touch_of c })
    else if c.phase == 2 then touch.Locked (record { touch = touch_of c })
    else if c.phase == 3 then touch.Missing (record { touch = touch_of c })
    else if c.phase == 4 then touch.Changed (record { touch = touch_of c; pending = pending_of c })
    else if c.phase == 5 then touch.Abort (record { touch = touch_of c; pending = pending_of c; answer = answer_of c })
    else if c.phase == 6 then touch.Taken (record { touch = touch_of c; pending = pending_of c; held = held_of c })
    else if c.phase == 7 then touch.Settle (record { touch = touch_of c; held = held_of c })
    else if c.phase == 8 then touch.Committed (record { touch = touch_of c; held = held_of c })
    else if c.phase == 9 then touch.Restore (record { touch = touch_of c; held = held_of c; answer = answer_of c })
    else if c.phase == 10 then touch.Found (record { touch = touch_of c })
    else touch.Leave (record { touch = touch_of c; answer = answer_of c })

abbrev map_back : Carried → MapPhase
map_back c =
    if c.phase == 0 then map.Start (record { map = map_of c })
    else if c.phase == 1 then map.Room (record { map = map_of c })
    else if c.phase == 2 then map.Missing (record { map = map_of c; base = c.page })
    else if c.phase == 3 then map.Changed (record { map = map_of c; base = c.page; pending = pending_of c })
    else if c.phase == 4 then map.Abort (record { map = map_of c; pending = pending_of c; answer = answer_of c })
    else if c.phase == 5 then map.Accounted (record { map = map_of c; base = c.page; pending = pending_of c })
    else if c.phase == 6 then map.Settle (record { map = map_of c; base = c.page; excess = c.excess })
    else if c.phase == 7 then map.Enter (record { map = map_of c; base = c.page })
    else map.Leave (record { map = map_of c; answer = answer_of c })

abbrev alloc_back : Carried → AllocPhase
alloc_back c =
    if c.phase == 0 then alloc.Start (record { allocation = allocation_of c })
    else if c.phase == 1 then alloc.Head (record { allocation = allocation_of c; index = c.index })
    else if c.phase == 2 then alloc.Want (record { allocation = allocation_of c; index = c.index })
    else if c.phase == 3 then alloc.Locked (record { allocation = allocation_of c; index = c.index })
    else if c.phase == 4 then alloc.Missing (record { allocation = allocation_of c; index = c.index })
    else if c.phase == 5 then alloc.Changed (record { allocation = allocation_of c; index = c.index; pending = pending_of c })
    else if c.phase == 6
    then alloc.Abort (record { allocation = allocation_of c; index = c.index; pending = pending_of c; answer = answer_of c })
    else if c.phase == 7
    then alloc.Taken (record { allocation = allocation_of c; index = c.index; pending = pending_of c; held = held_of c })
    else if c.phase == 8 then alloc.Settle (record { allocation = allocation_of c; index = c.index; held = held_of c })
    else if c.phase == 9 then alloc.Committed (record { allocation = allocation_of c; index = c.index; held = held_of c })
    else if c.phase == 10
    then alloc.Restore (record { allocation = allocation_of c; index = c.index; held = held_of c; answer = answer_of c })
    else if c.phase == 11 then alloc.Unslot (record { allocation = allocation_of c; index = c.index; answer = c.answer })
    else if c.phase == 12 then alloc.Extend (record { allocation = allocation_of c })
    else alloc.Leave (record { allocation = allocation_of c; answer = answer_of c })

abbrev punch_back : Carried → PunchPhase
punch_back c =
    if c.phase == 0 then punch.Start (record { hole = hole_of c })
    else if c.phase == 1 then punch.Want (record { hole = hole_of c; index = c.index })
    else if c.phase == 2 then punch.Locked (record { hole = hole_of c; index = c.index })
    else if c.phase == 3 then punch.Unmap (record { hole = hole_of c; index = c.index; task = c.task })
    else if c.phase == 4 then punch.Evict (record { hole = hole_of c; index = c.index })
    else if c.phase == 5 then punch.Delete (record { hole = hole_of c; index = c.index; held = held_of c })
    else if c.phase == 6 then punch.Free (record { hole = hole_of c; index = c.index; held = held_of c; denied = c.flag })
    else if c.phase == 7 then punch.Unslot (record { hole = hole_of c; index = c.index })
    else punch.Leave (record { hole = hole_of c })

abbrev truncate_back : Carried → TruncatePhase
truncate_back c =
    if c.phase == 0 then truncate.Start (record { truncation = truncation_of c })
    else if c.phase == 1 then truncate.Size (record { truncation = truncation_of c })
    else if c.phase == 2 then truncate.Want (record { truncation = truncation_of c; index = c.index; evicted = c.evicted })
    else if c.phase == 3 then truncate.Locked (record { truncation = truncation_of c; index = c.index; evicted = c.evicted })
    else if c.phase == 4 then truncate.Unmap (record { truncation = truncation_of c; index = c.index; evicted = c.evicted; task = c.task })
    else if c.phase == 5 then truncate.Evict (record { truncation = truncation_of c; index = c.index; evicted = c.evicted })
    else if c.phase == 6
    then truncate.Free (record { truncation = truncation_of c; index = c.index; evicted = c.evicted; held = held_of c })
    else if c.phase == 7 then truncate.Unslot (record { truncation = truncation_of c; index = c.index; evicted = c.evicted })
    else if c.phase == 8 then truncate.Tail (record { truncation = truncation_of c; evicted = c.evicted })
    else if c.phase == 9 then truncate.Settle (record { truncation = truncation_of c; excess = c.excess; evicted = c.evicted })
    else truncate.Leave (record { truncation = truncation_of c })

abbrev unmap_back : Carried → UnmapPhase
unmap_back c =
    if c.phase == 0 then unmap.Start (record { base = c.page })
    else if c.phase == 1 then unmap.Clear (record { base = c.page })
    else unmap.Drop (record { base = c.page })

abbrev exit_back : Carried → ExitPhase
exit_back c =
    if c.phase == 0 then exit.Start
    else if c.phase == 1 then exit.Clear (record { base = c.page })
    else if c.phase == 2 then exit.Drop (record { base = c.page })
    else exit.Leave

abbrev call_back : Carried → Call
call_back c =
    if c.operation == 0 then call.Touch (touch_back c)
    else if c.operation == 1 then call.Map (map_back c)
    else if c.operation == 2 then call.Alloc (alloc_back c)
    else if c.operation == 3 then call.Punch (punch_back c)
    else if c.operation == 4 then call.Truncate (truncate_back c)
    else if c.operation == 5 then call.Unmap (unmap_back c)
    else call.Exit (exit_back c)

back : (c : Call) → call_back (carried c) ≡ c
back (call.Touch (touch.Look p)) = refl
back (call.Touch (touch.Want p)) = refl
back (call.Touch (touch.Locked p)) = refl
back (call.Touch (touch.Missing p)) = refl
back (call.Touch (touch.Changed p)) = refl
back (call.Touch (touch.Abort p)) = refl
back (call.Touch (touch.Taken p)) = refl
back (call.Touch (touch.Settle p)) = refl
back (call.Touch (touch.Committed p)) = refl
back (call.Touch (touch.Restore p)) = refl
back (call.Touch (touch.Found p)) = refl
back (call.Touch (touch.Leave p)) = refl
back (call.Map (map.Start p)) = refl
back (call.Map (map.Room p)) = refl
back (call.Map (map.Missing p)) = refl
back (call.Map (map.Changed p)) = refl
back (call.Map (map.Abort p)) = refl
back (call.Map (map.Accounted p)) = refl
back (call.Map (map.Settle p)) = refl
back (call.Map (map.Enter p)) = refl
back (call.Map (map.Leave p)) = refl
back (call.Alloc (alloc.Start p)) = refl
back (call.Alloc (alloc.Head p)) = refl
back (call.Alloc (alloc.Want p)) = refl
back (call.Alloc (alloc.Locked p)) = refl
back (call.Alloc (alloc.Missing p)) = refl
back (call.Alloc (alloc.Changed p)) = refl
back (call.Alloc (alloc.Abort p)) = refl
back (call.Alloc (alloc.Taken p)) = refl
back (call.Alloc (alloc.Settle p)) = refl
back (call.Alloc (alloc.Committed p)) = refl
back (call.Alloc (alloc.Restore p)) = refl
back (call.Alloc (alloc.Unslot p)) = refl
back (call.Alloc (alloc.Extend p)) = refl
back (call.Alloc (alloc.Leave p)) = refl
back (call.Punch (punch.Start p)) = refl
back (call.Punch (punch.Want p)) = refl
back (call.Punch (punch.Locked p)) = refl
back (call.Punch (punch.Unmap p)) = refl
back (call.Punch (punch.Evict p)) = refl
back (call.Punch (punch.Delete p)) = refl
back (call.Punch (punch.Free p)) = refl
back (call.Punch (punch.Unslot p)) = refl
back (call.Punch (punch.Leave p)) = refl
back (call.Truncate (truncate.Start p)) = refl
back (call.Truncate (truncate.Size p)) = refl
back (call.Truncate (truncate.Want p)) = refl
back (call.Truncate (truncate.Locked p)) = refl
back (call.Truncate (truncate.Unmap p)) = refl
back (call.Truncate (truncate.Evict p)) = refl
back (call.Truncate (truncate.Free p)) = refl
back (call.Truncate (truncate.Unslot p)) = refl
back (call.Truncate (truncate.Tail p)) = refl
back (call.Truncate (truncate.Settle p)) = refl
back (call.Truncate (truncate.Leave p)) = refl
back (call.Unmap (unmap.Start p)) = refl
back (call.Unmap (unmap.Clear p)) = refl
back (call.Unmap (unmap.Drop p)) = refl
back (call.Exit exit.Start) = refl
back (call.Exit (exit.Clear p)) = refl
back (call.Exit (exit.Drop p)) = refl
back (call.Exit exit.Leave) = refl

-- ---- frames under other names

-- what a call carries under other names
touch_carries : (to : ℕ → ℕ) (p : TouchPhase)
    → carried (call.Touch (touch_renamed to p))
    ≡ record (carried (call.Touch p)) { frame = option_map to (carried (call.Touch p)).frame }
touch_carries to (touch.Taken p) = refl
touch_carries to (touch.Settle p) = refl
touch_carries to (touch.Committed p) = refl
touch_carries to (touch.Restore p) = refl
touch_carries to p = refl

map_carries : (to : ℕ → ℕ) (p : MapPhase)
    → carried (call.Map p) ≡ record (carried (call.Map p)) { frame = option_map to (carried (call.Map p)).frame }
map_carries to (map.Start p) = refl
map_carries to p = refl

alloc_carries : (to : ℕ → ℕ) (p : AllocPhase)
    → carried (call.Alloc (alloc_renamed to p))
    ≡ record (carried (call.Alloc p)) { frame = option_map to (carried (call.Alloc p)).frame }
alloc_carries to (alloc.Taken p) = refl
alloc_carries to (alloc.Settle p) = refl
alloc_carries to (alloc.Committed p) = refl
alloc_carries to (alloc.Restore p) = refl
alloc_carries to p = refl

punch_carries : (to : ℕ → ℕ) (p : PunchPhase)
    → carried (call.Punch (punch_renamed to p))
    ≡ record (carried (call.Punch p)) { frame = option_map to (carried (call.Punch p)).frame }
punch_carries to (punch.Delete p) = refl
punch_carries to (punch.Free p) = refl
punch_carries to p = refl

truncate_carries : (to : ℕ → ℕ) (p : TruncatePhase)
    → carried (call.Truncate (truncate_renamed to p))
    ≡ record (carried (call.Truncate p)) { frame = option_map to (carried (call.Truncate p)).frame }
truncate_carries to (truncate.Free p) = refl
truncate_carries to p = refl

unmap_carries : (to : ℕ → ℕ) (p : UnmapPhase)
    → carried (call.Unmap p) ≡ record (carried (call.Unmap p)) { frame = option_map to (carried (call.Unmap p)).frame }
unmap_carries to (unmap.Start p) = refl
unmap_carries to p = refl

exit_carries : (to : ℕ → ℕ) (p : ExitPhase)
    → carried (call.Exit p) ≡ record (carried (call.Exit p)) { frame = option_map to (carried (call.Exit p)).frame }
exit_carries to exit.Start = refl
exit_carries to p = refl

carries : (to : ℕ → ℕ) (c : Call) → carried (call_renamed to c) ≡ record (carried c) { frame = option_map to (carried c).frame }
carries to (call.Touch p) = touch_carries to p
carries to (call.Map p) = map_carries to p
carries to (call.Alloc p) = alloc_carries to p
carries to (call.Punch p) = punch_carries to p
carries to (call.Truncate p) = truncate_carries to p
carries to (call.Unmap p) = unmap_carries to p
carries to (call.Exit p) = exit_carries to p

-- the frame that it carries is the one in its hand
touch_hand : (p : TouchPhase) → hand (Some (call.Touch p)) ≡ (carried (call.Touch p)).frame
touch_hand (touch.Taken p) = refl
touch_hand p = refl

map_hand : (p : MapPhase) → hand (Some (call.Map p)) ≡ (carried (call.Map p)).frame
map_hand (map.Start p) = refl
map_hand p = refl

alloc_hand : (p : AllocPhase) → hand (Some (call.Alloc p)) ≡ (carried (call.Alloc p)).frame
alloc_hand (alloc.Taken p) = refl
alloc_hand p = refl

punch_hand : (p : PunchPhase) → hand (Some (call.Punch p)) ≡ (carried (call.Punch p)).frame
punch_hand (punch.Delete p) = refl
punch_hand p = refl

truncate_hand : (p : TruncatePhase) → hand (Some (call.Truncate p)) ≡ (carried (call.Truncate p)).frame
truncate_hand (truncate.Free p) = refl
truncate_hand p = refl

unmap_hand : (p : UnmapPhase) → hand (Some (call.Unmap p)) ≡ (carried (call.Unmap p)).frame
unmap_hand (unmap.Start p) = refl
unmap_hand p = refl

exit_hand : (p : ExitPhase) → hand (Some (call.Exit p)) ≡ (carried (call.Exit p)).frame
exit_hand exit.Start = refl
exit_hand p = refl

hand_carried : (c : Call) → hand (Some c) ≡ (carried c).frame
hand_carried (call.Touch p) = touch_hand p
hand_carried (call.Map p) = map_hand p
hand_carried (call.Alloc p) = alloc_hand p
hand_carried (call.Punch p) = punch_hand p
hand_carried (call.Truncate p) = truncate_hand p
hand_carried (call.Unmap p) = unmap_hand p
hand_carried (call.Exit p) = exit_hand p

-- ---- so the words of a call tell it, but for the name of the frame in its hand

abbrev pub told_of : Call → Fields
told_of c = fields_of (carried c)

pub tells_call : Tells call_words call_words told_of told_of
tells_call = tells_at carried tells_fields

-- one has a frame in hand where the other has
pub same_busy_hand : (c d : Call) → told_of c ≡ told_of d → is_some (hand (Some c)) ≡ is_some (hand (Some d))
same_busy_hand c d e =
    ap is_some (hand_carried c) ∙ (ap (λ (f : Fields). f.1.1.1.1.1.1.1.1.1.1.1.1.1.0) e ∙ sym (ap is_some (hand_carried d)))

-- and with the frame renamed, the one is the other
pub renamed_call : (c d : Call) (to : ℕ → ℕ) → told_of c ≡ told_of d → hand (Some d) ≡ option_map to (hand (Some c)) → d ≡ call_renamed to c
renamed_call c d to e named =
    let frame : (carried d).frame ≡ option_map to (carried c).frame =
    sym (hand_carried d) ∙ (named ∙ ap (option_map to) (hand_carried c)) in
    let same : carried d ≡ record (carried c) { frame = option_map to (carried c).frame } = λ i. carried_of (sym e i) (frame i) in
    sym (back d) ∙ (ap call_back (same ∙ sym (carries to c)) ∙ back (call_renamed to c))

-- ---- lives

abbrev life_named : ℕ → Life
life_named n = if n == 0 then Alive else if n == 1 then Killed else Dead

life_back : (l : Life) → life_named (life_number l) ≡ l
life_back Alive = refl
life_back Killed = refl
life_back Dead = refl

pub own_life : Own (λ (l : Life). life_number l ∷ [])
own_life = own_back life_number life_named life_back (tells_at life_number tells_number)
