-- From each reached state each event leads on: some row applies in each phase.
use Rattle.std.proofs.Common.{◌≡◌, ℕ, ◌+◌, ◌-◌, ◌<◌, ◌≤◌, refl, arith}
use Rattle.std.specs.Prelude.{Bool, true, false, not, ◌&&◌, ◌==◌, nat_le, nat_lt, max, is_some, Option, Some, None, MatchBool, MatchOption}
use Rattle.std.proofs.lemmas.Bool.Decides.{nat_tests}
use Rattle.hp_base.specs.Indices.{missing, splits}
use Rattle.hp_base.specs.Mappings.{find, is_base, first_base, without}
use Rattle.hp_base.specs.declared.answer.Answer.{Answer}
use Rattle.hp_base.specs.declared.event.Event.{Event}
use Rattle.hp_base.specs.declared.event.Event.TheVariants.{Begin, Step, Kill, Resize}
use Rattle.hp_base.proofs.Searches.{some_member, some_room, last_used}
use Rattle.hp_frames.specs.declared.frame.FrameState.{FrameState}
use Rattle.hp_frames.specs.declared.frame.FrameState.TheVariants as state
use Rattle.hp_region.specs.Change.{Change}
use Rattle.hp_base.specs.declared.answer.Answer.TheVariants.{NoFrame, NoQuota}
use Rattle.hp_frames.specs.Bank.{is_free}
use Rattle.hp_frames.proofs.Frames.{free_is}
use Rattle.hp_machine.specs.State.{exceeds_quota, quota_is_used_up, Pool, State, pool_of, frees, free_frames, slot_of, is_alive, is_killed, is_dead}
use Rattle.hp_machine.specs.Parts.{Goes, Ends, StartRow, WantSlotRow, ChangeRow, CommitRow, TakeRow, UnmapIndexRow, EvictRow}
use Rattle.hp_machine.specs.TouchRows.{TouchRow}
use Rattle.hp_machine.specs.MapRows.{MapRow}
use Rattle.hp_machine.specs.AllocRows.{AllocRow}
use Rattle.hp_machine.specs.PunchRows.{PunchRow}
use Rattle.hp_base.specs.Pages.{IsPagesEnd}
use Rattle.hp_machine.specs.TruncateRows.{TruncateRow}
use Rattle.hp_machine.specs.UnmapRows.{UnmapRow}
use Rattle.hp_machine.specs.ExitRows.{ExitRow}
use Rattle.hp_machine.specs.Events.{Row, CallRow, BeginRow, StepRow, KillRow, IsReached, is_exit, outcome_of, left}
use Rattle.hp_machine.specs.declared.touch.TouchPhase.{TouchPhase}
use Rattle.hp_machine.specs.declared.touch.TouchPhase.TheVariants as touch
use Rattle.hp_machine.specs.declared.map.MapPhase.{MapPhase}
use Rattle.hp_machine.specs.declared.map.MapPhase.TheVariants as map
use Rattle.hp_machine.specs.declared.alloc.AllocPhase.{AllocPhase}
use Rattle.hp_machine.specs.declared.alloc.AllocPhase.TheVariants as alloc
use Rattle.hp_machine.specs.declared.punch.PunchPhase.{PunchPhase}
use Rattle.hp_machine.specs.declared.punch.PunchPhase.TheVariants as punch
use Rattle.hp_machine.specs.declared.truncate.TruncatePhase.{TruncatePhase}
use Rattle.hp_machine.specs.declared.truncate.TruncatePhase.TheVariants as truncate
use Rattle.hp_machine.specs.declared.unmap.UnmapPhase.{UnmapPhase}
use Rattle.hp_machine.specs.declared.unmap.UnmapPhase.TheVariants as unmap
use Rattle.hp_machine.specs.declared.exit.ExitPhase.{ExitPhase}
use Rattle.hp_machine.specs.declared.exit.ExitPhase.TheVariants as exit
use Rattle.hp_machine.specs.declared.outcome.Outcome.{Outcome}
use Rattle.hp_machine.specs.declared.call.Call.{Call}
use Rattle.hp_machine.specs.declared.call.Call.TheVariants as call
use Rattle.hp_machine.specs.declared.call.Turn.{Turn}
use Rattle.hp_machine.specs.declared.call.Turn.TheVariants.{Moved, Blocked, Ended}
use Rattle.hp_laws.proofs.Deciding.{is_nil}
use Rattle.hp_laws.proofs.Resizing.{resize_leads}
use Rattle.hp_laws.proofs.Meets.{HasPage, settles, stands, has_page, entry_placed, resv_covered, page_inside}

-- some turn and some state after it meet the row
abbrev Leads : {P : Type 0} → (Turn P → Pool → Type 0) → Type 0
Leads {P} row = (turn : Turn P) × (new : Pool) × row turn new

-- a row that goes on to a phase applies
goes : {P : Type 0} (phase : P) (after : Pool) → Leads (Goes phase after)
goes phase after = (Moved phase, after, (refl, refl))

-- so does one that ends the call
ends : {P : Type 0} (a : Answer) (after : Pool) → (turn : Turn P) × (new : Pool) × Ends a after turn new
ends a after = (Ended a, after, (refl, refl))

-- a row by a test applies where each of its cases does
test : {P : Type 0} {A B : Turn P → Pool → Type 0} (b : Bool) → (b ≡ true → Leads A) → (b ≡ false → Leads B)
    → Leads (λ turn new. MatchBool b (A turn new) (B turn new))
test true a b = a refl
test false a b = b refl

-- so does one by an option
option : {P X : Type 0} {A : Turn P → Pool → Type 0} {B : X → Turn P → Pool → Type 0} (o : Option X) → (o ≡ None → Leads A)
    → ((x : X) → o ≡ Some x → Leads (B x)) → Leads (λ turn new. MatchOption o (A turn new) (λ x. B x turn new))
option None a b = a refl
option (Some x) a b = b x refl

-- a row that asks for something applies where that is there
witness : {P X : Type 0} {Q : X → Type 0} {A : X → Turn P → Pool → Type 0} (x : X) → Q x → Leads (A x)
    → Leads (λ turn new. (y : X) × Q y × A y turn new)
witness x q (turn, new, row) = (turn, new, (x, q, row))

-- the rows that operations share apply in every state: at the start, where a lock is taken
start : {P : Type 0} (s : Pool) (t : ℕ) (killed : Bool) (f : ℕ) (bad : Bool) (at_kill : Answer) (here next : P)
    → Leads (StartRow s t killed f bad at_kill here next)
start s t killed f bad at_kill here next =
    test (nat_le s.geometry.files f) (λ _. ends _ s)
    (λ _. test bad (λ _. ends _ s)
    (λ _. test killed (λ _. ends at_kill s)
    (λ _. option (s.locks f) (λ _. goes next _) (λ u _. (Blocked here u, s, (refl, refl))))))

-- where a slot is taken
want : {P : Type 0} (s : Pool) (t f i : ℕ) (here next : P) → Leads (WantSlotRow s t f i here next)
want s t f i here next = option (s.slots (slot_of s.geometry f i)) (λ _. goes next _) (λ u _. (Blocked here u, s, (refl, refl)))

-- where a change is begun
change : {P : Type 0} (s : Pool) (grant : Bool) (f from to : ℕ) (denied : P) (changed : Change → P)
    → Leads (ChangeRow s grant f from to denied changed)
change s grant f from to denied changed = test ((s.spare f == s.pending f) && not grant) (λ _. goes denied s) (λ _. goes _ _)

-- and where one is committed
commit : {P : Type 0} (s : Pool) (f : ℕ) (c : Change) (settle next : P) → Leads (CommitRow s f c settle next)
commit s f c settle next = test (nat_lt (missing (s.reserved f) c.from c.to) c.missing) (λ _. goes settle _) (λ _. goes next _)

-- there is a free frame
some_free : (frame : ℕ → FrameState) (frames : ℕ) → 1 ≤ free_frames frame frames → (x : ℕ) × (frame x ≡ state.Free)
unfolding free_frames
some_free frame frames l = let o = some_member frames (λ x. is_free (frame x)) l in (o.0, free_is (frame o.0) o.1)

-- a take applies where the reserve count is covered by free frames, and isn't 0 where it takes a reserved one
take : {P : Type 0} (s : State) (m : ℕ) (refused : Answer → P) (taken : ℕ → P) → s.resv ≤ free_frames s.frame s.frames
    → (m ≡ 0 → 1 ≤ s.resv) → Leads (TakeRow (pool_of s) m refused taken)
take s m refused taken covered reserved =
    test (m == 0)
    (λ none. let low = reserved (is_nil m none) in let x = some_free s.frame s.frames (omega arith) in
    (Moved (taken x.0), _, (x.0, x.1, low, (refl, refl))))
    (λ some. test (quota_is_used_up (pool_of s)) (λ _. goes (refused NoQuota) (pool_of s))
    (λ fits. test (frees (pool_of s) == s.resv) (λ _. goes (refused NoFrame) (pool_of s))
    (λ left. let x = some_free s.frame s.frames (more _ _ left covered) in (Moved (taken x.0), _, (x.0, x.1, (refl, refl))))))
  where
    more : (a b : ℕ) → (a == b) ≡ false → b ≤ a → 1 ≤ a
    more a b e l = grind (arith, nat_tests)

-- the clearing of one task's entries applies in every state
unmap_index : {P : Type 0} (s : Pool) (k f i : ℕ) (more last : P) → Leads (UnmapIndexRow s k f i more last)
unmap_index s k f i more last = test (nat_lt k s.geometry.tasks) (λ _. goes more _) (λ _. goes last _)

-- an eviction applies where the index has a page
evict : {P : Type 0} (s : State) (f i : ℕ) (next : ℕ → P) → HasPage s f i → Leads (EvictRow (pool_of s) f i next)
evict s f i next (x, page, placed) = (Moved (next x), _, (x, page, (refl, refl)))

-- the pages of a file end somewhere
some_end : (s : State) (f : ℕ) → IsReached s → (end : ℕ) × IsPagesEnd (s.pages f) end
some_end s f reached =
    let o = last_used s.geometry.limit (s.pages f) in
    (o.0, ((λ i l. clear o.0 o.2 i (nat_lt i s.geometry.limit) refl l), λ other h. o.3 other (λ i a b. h i a)))
  where
    beyond : (i : ℕ) (o : Option ℕ) → s.geometry.limit ≤ i → s.pages f i ≡ o → o ≡ None
    beyond i None l e = refl
    beyond i (Some x) l e = (let z = page_inside s f i x reached e in absurd (omega arith))

    clear : (top : ℕ) → ((i : ℕ) → top ≤ i → i < s.geometry.limit → s.pages f i ≡ None) → (i : ℕ) (b : Bool)
        → nat_lt i s.geometry.limit ≡ b → top ≤ i → s.pages f i ≡ None
    clear top p i true d l = p i l (grind (arith, nat_tests))
    clear top p i false d l = beyond i (s.pages f i) (grind (arith, nat_tests)) refl

-- a touch can go on from each phase in every reached state
touch_leads : (s : State) (t : ℕ) (killed grant : Bool) (phase : TouchPhase) → IsReached s → s.calls t ≡ Some (call.Touch phase)
    → Leads (TouchRow (pool_of s) t killed grant phase)
touch_leads s t killed grant (touch.Look p) reached e =
    option (find (s.mappings t) p.vpn) (λ _. ends _ (pool_of s))
    (λ place _. option (s.entries t p.vpn) (λ _. goes _ (pool_of s))
    (λ x entry. let o = entry_placed s t p.vpn x reached entry in (Ended _, _, (o.1.0, o.1.1, (refl, refl)))))
touch_leads s t killed grant (touch.Want p) reached e =
    test killed (λ _. ends _ (pool_of s)) (λ _. want (pool_of s) t p.touch.file p.touch.index _ _)
touch_leads s t killed grant (touch.Locked p) reached e =
    test (nat_le (s.size p.touch.file) p.touch.index) (λ _. goes _ (pool_of s))
    (λ _. test (is_some (s.pages p.touch.file p.touch.index)) (λ _. goes _ (pool_of s)) (λ _. goes _ (pool_of s)))
touch_leads s t killed grant (touch.Missing p) reached e =
    change (pool_of s) grant p.touch.file p.touch.index (p.touch.index + 1) _
    (λ c. touch.Changed (record { touch = p.touch; pending = c }))
touch_leads s t killed grant (touch.Changed p) reached e =
    test killed (λ _. goes _ (pool_of s))
    (λ _. take s p.pending.missing (λ a. touch.Abort (record { touch = p.touch; pending = p.pending; answer = a })) _
    (resv_covered s reached) (settles s t _ reached e))
touch_leads s t killed grant (touch.Abort p) reached e = goes _ _
touch_leads s t killed grant (touch.Taken p) reached e = commit (pool_of s) p.touch.file p.pending _ _
touch_leads s t killed grant (touch.Settle p) reached e = (let o = settles s t _ reached e in (Moved _, _, (o.0, o.1, (refl, refl))))
touch_leads s t killed grant (touch.Committed p) reached e =
    test (nat_le (s.size p.touch.file) p.touch.index) (λ _. goes _ (pool_of s))
    (λ _. test grant (λ _. goes _ _) (λ _. goes _ (pool_of s)))
touch_leads s t killed grant (touch.Restore p) reached e = goes _ _
touch_leads s t killed grant (touch.Found p) reached e =
    test (nat_le (s.size p.touch.file) p.touch.index) (λ _. goes _ (pool_of s))
    (λ _. test grant
    (λ _. let o = has_page s _ _ reached (stands s t _ reached e).facts.cached in
    (Moved _, _, (o.0, o.2.1.0, o.1, o.2.1.1, (refl, refl))))
    (λ _. goes _ (pool_of s)))
touch_leads s t killed grant (touch.Leave p) reached e = ends _ _

-- so can a map
map_leads : (s : State) (t : ℕ) (killed grant : Bool) (phase : MapPhase) → IsReached s → s.calls t ≡ Some (call.Map phase)
    → Leads (MapRow (pool_of s) t killed grant phase)
map_leads s t killed grant (map.Start p) reached e = start (pool_of s) t killed p.map.file _ _ _ _
map_leads s t killed grant (map.Room p) reached e =
    let o = some_room s.geometry.space (s.mappings t) p.map.len in
    witness o.0 o.1 (option o.0 (λ _. goes _ (pool_of s))
    (λ base _. test grant (λ _. test p.map.reserve (λ _. goes _ _) (λ _. goes _ _)) (λ _. goes _ (pool_of s))))
map_leads s t killed grant (map.Missing p) reached e =
    change (pool_of s) grant p.map.file p.map.from (p.map.from + p.map.len) _
    (λ c. map.Changed (record { map = p.map; base = p.base; pending = c }))
map_leads s t killed grant (map.Changed p) reached e =
    test killed (λ _. goes _ (pool_of s))
    (λ _. test (exceeds_quota (pool_of s) p.pending.missing) (λ _. goes _ (pool_of s))
    (λ _. test (nat_lt (frees (pool_of s) - s.resv) p.pending.missing) (λ _. goes _ (pool_of s)) (λ _. goes _ _)))
map_leads s t killed grant (map.Abort p) reached e = goes _ _
map_leads s t killed grant (map.Accounted p) reached e =
    test (nat_lt (missing (s.reserved p.map.file) p.pending.from p.pending.to) p.pending.missing) (λ _. goes _ _) (λ _. goes _ _)
map_leads s t killed grant (map.Settle p) reached e = (let o = settles s t _ reached e in (Moved _, _, (o.0, o.1, (refl, refl))))
map_leads s t killed grant (map.Enter p) reached e = goes _ _
map_leads s t killed grant (map.Leave p) reached e = ends _ _

-- so can an allocation
alloc_leads : (s : State) (t : ℕ) (killed grant : Bool) (phase : AllocPhase) → IsReached s → s.calls t ≡ Some (call.Alloc phase)
    → Leads (AllocRow (pool_of s) t killed grant phase)
alloc_leads s t killed grant (alloc.Start p) reached e = start (pool_of s) t killed p.allocation.file _ _ _ _
alloc_leads s t killed grant (alloc.Head p) reached e = test killed (λ _. goes _ (pool_of s)) (λ _. goes _ (pool_of s))
alloc_leads s t killed grant (alloc.Want p) reached e =
    test killed (λ _. goes _ (pool_of s)) (λ _. want (pool_of s) t p.allocation.file p.index _ _)
alloc_leads s t killed grant (alloc.Locked p) reached e =
    test (is_some (s.pages p.allocation.file p.index)) (λ _. goes _ (pool_of s)) (λ _. goes _ (pool_of s))
alloc_leads s t killed grant (alloc.Missing p) reached e =
    change (pool_of s) grant p.allocation.file p.index (p.index + 1) _
    (λ c. alloc.Changed (record { allocation = p.allocation; index = p.index; pending = c }))
alloc_leads s t killed grant (alloc.Changed p) reached e =
    test killed (λ _. goes _ (pool_of s))
    (λ _. take s p.pending.missing
    (λ a. alloc.Abort (record { allocation = p.allocation; index = p.index; pending = p.pending; answer = a })) _
    (resv_covered s reached) (settles s t _ reached e))
alloc_leads s t killed grant (alloc.Abort p) reached e = goes _ _
alloc_leads s t killed grant (alloc.Taken p) reached e = commit (pool_of s) p.allocation.file p.pending _ _
alloc_leads s t killed grant (alloc.Settle p) reached e = (let o = settles s t _ reached e in (Moved _, _, (o.0, o.1, (refl, refl))))
alloc_leads s t killed grant (alloc.Committed p) reached e = test grant (λ _. goes _ _) (λ _. goes _ (pool_of s))
alloc_leads s t killed grant (alloc.Restore p) reached e = goes _ _
alloc_leads s t killed grant (alloc.Unslot p) reached e =
    option p.answer (λ _. test (nat_lt (p.index + 1) (p.allocation.from + p.allocation.len)) (λ _. goes _ _)
    (λ _. test p.allocation.keep (λ _. goes _ _) (λ _. goes _ _))) (λ a _. goes _ _)
alloc_leads s t killed grant (alloc.Extend p) reached e = goes _ _
alloc_leads s t killed grant (alloc.Leave p) reached e = ends _ _

-- so can a punch
punch_leads : (s : State) (t : ℕ) (killed grant : Bool) (phase : PunchPhase) → IsReached s → s.calls t ≡ Some (call.Punch phase)
    → Leads (PunchRow (pool_of s) t killed grant phase)
punch_leads s t killed grant (punch.Start p) reached e = start (pool_of s) t killed p.hole.file _ _ _ _
punch_leads s t killed grant (punch.Want p) reached e = want (pool_of s) t p.hole.file p.index _ _
punch_leads s t killed grant (punch.Locked p) reached e =
    test (is_some (s.pages p.hole.file p.index)) (λ _. goes _ (pool_of s)) (λ _. goes _ (pool_of s))
punch_leads s t killed grant (punch.Unmap p) reached e = unmap_index (pool_of s) p.task p.hole.file p.index _ _
punch_leads s t killed grant (punch.Evict p) reached e =
    evict s p.hole.file p.index _ (has_page s _ _ reached (stands s t _ reached e).facts.cached)
punch_leads s t killed grant (punch.Delete p) reached e =
    test (splits (s.reserved p.hole.file) p.index && nat_le (s.spare p.hole.file) (s.pending p.hole.file)
    && not grant) (λ _. goes _ (pool_of s)) (λ _. goes _ _)
punch_leads s t killed grant (punch.Free p) reached e =
    test p.denied (λ _. goes _ _) (λ done. (Moved _, _, (settles s t _ reached e done, (refl, refl))))
punch_leads s t killed grant (punch.Unslot p) reached e =
    test (nat_lt (p.index + 1) (p.hole.from + p.hole.len)) (λ _. goes _ _) (λ _. goes _ _)
punch_leads s t killed grant (punch.Leave p) reached e = ends _ _

-- so can a truncation
truncate_leads : (s : State) (t : ℕ) (killed grant : Bool) (phase : TruncatePhase) → IsReached s → s.calls t ≡ Some (call.Truncate phase)
    → Leads (TruncateRow (pool_of s) t killed grant phase)
truncate_leads s t killed grant (truncate.Start p) reached e = start (pool_of s) t killed p.truncation.file _ _ _ _
truncate_leads s t killed grant (truncate.Size p) reached e =
    let o = some_end s p.truncation.file reached in
    witness o.0 o.1 (test (nat_lt p.truncation.new (max (s.size p.truncation.file) o.0)) (λ _. goes _ _) (λ _. goes _ _))
truncate_leads s t killed grant (truncate.Want p) reached e = want (pool_of s) t p.truncation.file p.index _ _
truncate_leads s t killed grant (truncate.Locked p) reached e =
    test (is_some (s.pages p.truncation.file p.index)) (λ _. goes _ (pool_of s)) (λ _. goes _ (pool_of s))
truncate_leads s t killed grant (truncate.Unmap p) reached e = unmap_index (pool_of s) p.task p.truncation.file p.index _ _
truncate_leads s t killed grant (truncate.Evict p) reached e =
    evict s p.truncation.file p.index _ (has_page s _ _ reached (stands s t _ reached e).facts.cached)
truncate_leads s t killed grant (truncate.Free p) reached e = goes _ _
truncate_leads s t killed grant (truncate.Unslot p) reached e = test (nat_lt p.truncation.new p.index) (λ _. goes _ _) (λ _. goes _ _)
truncate_leads s t killed grant (truncate.Tail p) reached e = goes _ _
truncate_leads s t killed grant (truncate.Settle p) reached e = (let o = settles s t _ reached e in (Moved _, _, (o.0, o.1, (refl, refl))))
truncate_leads s t killed grant (truncate.Leave p) reached e = ends _ _

-- an unmap can go on in every state
unmap_leads : (s : State) (t : ℕ) (killed grant : Bool) (phase : UnmapPhase) → Leads (UnmapRow (pool_of s) t killed grant phase)
unmap_leads s t killed grant (unmap.Start p) = test (is_base (s.mappings t) p.base) (λ _. goes _ (pool_of s)) (λ _. ends _ (pool_of s))
unmap_leads s t killed grant (unmap.Clear p) = goes _ _
unmap_leads s t killed grant (unmap.Drop p) = ends _ _

-- so can an exit
exit_leads : (s : State) (t : ℕ) (killed grant : Bool) (phase : ExitPhase) → Leads (ExitRow (pool_of s) t killed grant phase)
exit_leads s t killed grant exit.Start = option (first_base (s.mappings t)) (λ _. goes _ (pool_of s)) (λ base _. goes _ (pool_of s))
exit_leads s t killed grant (exit.Clear p) = goes _ _
exit_leads s t killed grant (exit.Drop p) = option (first_base (without (s.mappings t) p.base)) (λ _. goes _ _) (λ base _. goes _ _)
exit_leads s t killed grant exit.Leave = ends _ (pool_of s)

-- so each call in flight has a row
call_leads : (s : State) (t : ℕ) (killed grant : Bool) (c : Call) → IsReached s → s.calls t ≡ Some c
    → (o : Outcome) × (new : Pool) × (next : Option Call) × CallRow (pool_of s) t killed grant c o new next
unfolding CallRow
call_leads s t killed grant (call.Touch p) reached e =
    let r = touch_leads s t killed grant p reached e in
    (outcome_of call.Touch r.0, r.1, left call.Touch r.0, (r.0, r.2, refl, refl))
call_leads s t killed grant (call.Map p) reached e =
    let r = map_leads s t killed grant p reached e in
    (outcome_of call.Map r.0, r.1, left call.Map r.0, (r.0, r.2, refl, refl))
call_leads s t killed grant (call.Alloc p) reached e =
    let r = alloc_leads s t killed grant p reached e in
    (outcome_of call.Alloc r.0, r.1, left call.Alloc r.0, (r.0, r.2, refl, refl))
call_leads s t killed grant (call.Punch p) reached e =
    let r = punch_leads s t killed grant p reached e in
    (outcome_of call.Punch r.0, r.1, left call.Punch r.0, (r.0, r.2, refl, refl))
call_leads s t killed grant (call.Truncate p) reached e =
    let r = truncate_leads s t killed grant p reached e in
    (outcome_of call.Truncate r.0, r.1, left call.Truncate r.0, (r.0, r.2, refl, refl))
call_leads s t killed grant (call.Unmap p) reached e =
    let r = unmap_leads s t killed grant p in
    (outcome_of call.Unmap r.0, r.1, left call.Unmap r.0, (r.0, r.2, refl, refl))
call_leads s t killed grant (call.Exit p) reached e =
    let r = exit_leads s t killed grant p in
    (outcome_of call.Exit r.0, r.1, left call.Exit r.0, (r.0, r.2, refl, refl))

-- an event's row by a test applies where each of its cases does
by_bool : {A B : Outcome → State → Type 0} (b : Bool) → (b ≡ true → (o : Outcome) × (n : State) × A o n)
    → (b ≡ false → (o : Outcome) × (n : State) × B o n) → (o : Outcome) × (n : State) × MatchBool b (A o n) (B o n)
by_bool true a b = a refl
by_bool false a b = b refl

-- so does one by the call in flight
by_call : {A : Outcome → State → Type 0} {B : Call → Outcome → State → Type 0} (c : Option Call)
    → (c ≡ None → (o : Outcome) × (n : State) × A o n) → ((x : Call) → c ≡ Some x → (o : Outcome) × (n : State) × B x o n)
    → (o : Outcome) × (n : State) × MatchOption c (A o n) (λ x. B x o n)
by_call None a b = a refl
by_call (Some x) a b = b x refl

-- each event has an outcome and a state after it, in every reached state
pub no_dead_ends : (s : State) (event : Event) → IsReached s → (o : Outcome) × (after : State) × Row s event o after
unfolding BeginRow StepRow KillRow
no_dead_ends s (Begin t p) reached =
    by_bool (is_dead (s.life t)) (λ _. (_, _, (refl, refl)))
    (λ _. by_call (s.calls t)
    (λ _. by_bool (is_killed (s.life t) && not (is_exit p)) (λ _. (_, _, (refl, refl))) (λ _. (_, _, (refl, refl))))
    (λ c _. (_, _, (refl, refl))))
no_dead_ends s (Step t grant) reached =
    by_bool (is_dead (s.life t)) (λ _. (_, _, (refl, refl)))
    (λ _. by_call (s.calls t) (λ _. (_, _, (refl, refl)))
    (λ c e. let r = call_leads s t (is_killed (s.life t)) grant c reached e in (r.0, _, (r.1, r.2, r.3, refl))))
no_dead_ends s (Kill t) reached = by_bool (is_alive (s.life t)) (λ _. (_, _, (refl, refl))) (λ _. (_, _, (refl, refl)))
no_dead_ends s (Resize size) reached = let r = resize_leads (pool_of s) size in (r.0, _, (r.1, r.2, refl))
