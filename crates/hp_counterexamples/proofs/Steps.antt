-- A step of a call, computed together with the proof that it is its row.
use Rattle.std.proofs.Common.{◌≡◌, ℕ, suc, ◌+◌, ◌-◌, refl}
use Rattle.std.specs.Prelude.{Bool, true, false, not, ◌&&◌, ◌==◌, nat_le, nat_lt, max, is_some, Option, Some, None}
use Rattle.std.specs.Prelude.{MatchBool, MatchOption}
use Rattle.hp_base.specs.Indices.{missing, splits}
use Rattle.hp_base.specs.Mappings.{find, is_base, first_base, without}
use Rattle.hp_base.specs.declared.answer.Answer.{Answer}
use Rattle.hp_region.specs.Change.{Change}
use Rattle.hp_machine.specs.State.{Pool, frees, exceeds_quota}
use Rattle.hp_machine.specs.State.{quota_is_used_up, slot_of}
use Rattle.hp_machine.specs.Parts.{Goes, Ends, StartRow, WantSlotRow, ChangeRow, CommitRow, TakeRow, SettleOneRow}
use Rattle.hp_machine.specs.Parts.{UnmapIndexRow, EvictRow}
use Rattle.hp_machine.specs.TouchRows.{TouchRow}
use Rattle.hp_machine.specs.MapRows.{MapRow}
use Rattle.hp_machine.specs.AllocRows.{AllocRow}
use Rattle.hp_machine.specs.PunchRows.{PunchRow}
use Rattle.hp_machine.specs.TruncateRows.{TruncateRow}
use Rattle.hp_machine.specs.UnmapRows.{UnmapRow}
use Rattle.hp_machine.specs.ExitRows.{ExitRow}
use Rattle.hp_machine.specs.Events.{CallRow}
use Rattle.hp_machine.specs.Events.{TurnRow}
use Rattle.hp_machine.specs.Events.{outcome_of, left}
use Rattle.hp_machine.specs.declared.touch.TouchPhase.{TouchPhase}
use Rattle.hp_machine.specs.declared.touch.TouchPhase.TheVariants as touch
use Rattle.hp_machine.specs.declared.map.MapPhase.{MapPhase}
use Rattle.hp_machine.specs.declared.map.MapPhase.TheVariants as map
use Rattle.hp_machine.specs.declared.alloc.AllocPhase.{AllocPhase}
use Rattle.hp_machine.specs.declared.alloc.AllocPhase.TheVariants as alloc
use Rattle.hp_machine.specs.declared.punch.PunchPhase.{PunchPhase}
use Rattle.hp_machine.specs.declared.punch.PunchPhase.TheVariants as punch
use Rattle.hp_machine.specs.declared.truncate.TruncatePhase.{TruncatePhase}
use Rattle.hp_machine.specs.declared.truncate.TruncatePhase.TheVariants as truncate
use Rattle.hp_machine.specs.declared.unmap.UnmapPhase.{UnmapPhase}
use Rattle.hp_machine.specs.declared.unmap.UnmapPhase.TheVariants as unmap
use Rattle.hp_machine.specs.declared.exit.ExitPhase.{ExitPhase}
use Rattle.hp_machine.specs.declared.exit.ExitPhase.TheVariants as exit
use Rattle.hp_machine.specs.declared.outcome.Outcome.{Outcome}
use Rattle.hp_machine.specs.declared.call.Call.{Call}
use Rattle.hp_machine.specs.declared.call.Call.TheVariants as call
use Rattle.hp_machine.specs.declared.call.Turn.{Turn}
use Rattle.hp_machine.specs.declared.call.Turn.TheVariants.{Moved, Blocked, Ended}
use Rattle.hp_counterexamples.proofs.Searching.{Clear, pick, bind, at_most, first_free, word_at, what_is, seek, none_below, end_of}
use Rattle.hp_counterexamples.proofs.Searching.{clear_placed, clear_evicted}

-- some turn and some pool after it meet the row, where this finds them
abbrev pub Tried : {P : Type 0} → (Turn P → Pool → Type 0) → Type 0
Tried {P} row = Option ((turn : Turn P) × (new : Pool) × row turn new × Clear new.geometry.limit new.pages)

-- a row by which the call goes on, and one by which it ends
abbrev pub goes : {P : Type 0} (phase : P) (after : Pool) → Clear after.geometry.limit after.pages → Tried (Goes phase after)
goes phase after h = Some (Moved phase, after, (refl, refl), h)

abbrev pub ends : {P : Type 0} (a : Answer) (after : Pool) → Clear after.geometry.limit after.pages
    → Tried {P = P} (λ turn new. Ends a after turn new)
ends a after h = Some (Ended a, after, (refl, refl), h)

-- a row that is one of two, and one that knows what an option has
abbrev pub test : {P : Type 0} {A B : Turn P → Pool → Type 0} (b : Bool) → (b ≡ true → Tried A) → (b ≡ false → Tried B)
    → Tried (λ turn new. MatchBool b (A turn new) (B turn new))
test true a b = a refl
test false a b = b refl

abbrev pub option : {P X : Type 0} {A : Turn P → Pool → Type 0} {B : X → Turn P → Pool → Type 0} (o : Option X)
    → (o ≡ None → Tried A) → ((x : X) → o ≡ Some x → Tried (B x))
    → Tried (λ turn new. MatchOption o (A turn new) (λ x. B x turn new))
option None a b = a refl
option (Some x) a b = b x refl

-- a row that begins with a number or a base that is found
abbrev pub grown : {P X : Type 0} {Q : X → Type 0} {A : X → Turn P → Pool → Type 0} (x : X) → Q x → Tried (A x)
    → Tried (λ turn new. (y : X) × Q y × A y turn new)
grown x q None = None
grown x q (Some r) = Some (r.0, r.1, (x, q, r.2), r.3)

-- ---- the parts that rows share

-- the start of a call on a file
abbrev pub start : {P : Type 0} (s : Pool) (t : ℕ) (killed : Bool) (f : ℕ) (bad : Bool) (at_kill : Answer) (here next : P)
    → Clear s.geometry.limit s.pages → Tried (StartRow s t killed f bad at_kill here next)
start s t killed f bad at_kill here next h =
    test (nat_le s.geometry.files f) (λ _. ends _ s h)
    (λ _. test bad (λ _. ends _ s h)
    (λ _. test killed (λ _. ends at_kill s h)
    (λ _. option (s.locks f) (λ _. goes next _ h) (λ u _. Some (Blocked here u, s, (refl, refl), h)))))

-- the slot of an index
abbrev pub want : {P : Type 0} (s : Pool) (t f i : ℕ) (here next : P) → Clear s.geometry.limit s.pages
    → Tried (WantSlotRow s t f i here next)
want s t f i here next h =
    option (s.slots (slot_of s.geometry f i)) (λ _. goes next _ h) (λ u _. Some (Blocked here u, s, (refl, refl), h))

-- a change is begun, and ends in the set
abbrev pub change : {P : Type 0} (s : Pool) (grant : Bool) (f from to : ℕ) (denied : P) (changed : Change → P)
    → Clear s.geometry.limit s.pages → Tried (ChangeRow s grant f from to denied changed)
change s grant f from to denied changed h =
    test ((s.spare f == s.pending f) && not grant) (λ _. goes denied s h) (λ _. goes _ _ h)

abbrev pub commit : {P : Type 0} (s : Pool) (f : ℕ) (c : Change) (settle next : P) → Clear s.geometry.limit s.pages
    → Tried (CommitRow s f c settle next)
commit s f c settle next h =
    test (nat_lt (missing (s.reserved f) c.from c.to) c.missing) (λ _. goes settle _ h) (λ _. goes next _ h)

-- a frame for one page, and one that is given back to the count
abbrev pub take : {P : Type 0} (s : Pool) (m : ℕ) (refused : Answer → P) (taken : ℕ → P) → Clear s.geometry.limit s.pages
    → Tried (TakeRow s m refused taken)
take s m refused taken h =
    test (m == 0)
    (λ _. bind (first_free s.frame s.frames)
    (λ x. bind (at_most 1 s.resv) (λ low. Some (Moved (taken x.0), _, (x.0, x.1, low, (refl, refl)), h))))
    (λ _. test (quota_is_used_up s) (λ _. goes _ s h) (λ _. test (frees s == s.resv) (λ _. goes _ s h)
    (λ _. bind (first_free s.frame s.frames) (λ x. Some (Moved (taken x.0), _, (x.0, x.1, (refl, refl)), h)))))

abbrev pub settle_one : {P : Type 0} (s : Pool) (next : P) → Clear s.geometry.limit s.pages → Tried (SettleOneRow s next)
settle_one s next h =
    bind (at_most 1 s.resv) (λ low. bind (at_most 1 s.used) (λ used. Some (Moved next, _, (low, used, (refl, refl)), h)))

-- a page loses its entries, and goes
abbrev pub unmap_index : {P : Type 0} (s : Pool) (k f i : ℕ) (more last : P) → Clear s.geometry.limit s.pages
    → Tried (UnmapIndexRow s k f i more last)
unmap_index s k f i more last h = test (nat_lt k s.geometry.tasks) (λ _. goes more _ h) (λ _. goes last _ h)

abbrev pub evict : {P : Type 0} (s : Pool) (f i : ℕ) (next : ℕ → P) → Clear s.geometry.limit s.pages
    → Tried (EvictRow s f i next)
evict s f i next h =
    bind (what_is (s.pages f i))
    (λ x. Some (Moved (next x.0), _, (x.0, x.1, (refl, refl)), clear_evicted s.geometry.limit s.pages f i h))

-- ---- the operations

-- one step of a touch; below, of each other operation
abbrev pub try_touch : (s : Pool) (t : ℕ) (killed grant : Bool) (phase : TouchPhase) → Clear s.geometry.limit s.pages
    → Tried (TouchRow s t killed grant phase)
try_touch s t killed grant (touch.Look p) h =
    option (find (s.mappings t) p.vpn) (λ _. ends _ s h)
    (λ place _. option (s.entries t p.vpn) (λ _. goes _ s h)
    (λ x _. bind (word_at (s.frame x)) (λ w. Some (Ended _, _, (w.0, w.1, (refl, refl)), h))))
try_touch s t killed grant (touch.Want p) h = test killed (λ _. ends _ s h) (λ _. want s t p.touch.file p.touch.index _ _ h)
try_touch s t killed grant (touch.Locked p) h =
    test (nat_le (s.size p.touch.file) p.touch.index) (λ _. goes _ s h)
    (λ _. test (is_some (s.pages p.touch.file p.touch.index)) (λ _. goes _ s h) (λ _. goes _ s h))
try_touch s t killed grant (touch.Missing p) h =
    change s grant p.touch.file p.touch.index (p.touch.index + 1) _
    (λ c. touch.Changed (record { touch = p.touch; pending = c })) h
try_touch s t killed grant (touch.Changed p) h =
    test killed (λ _. goes _ s h)
    (λ _. take s p.pending.missing (λ a. touch.Abort (record { touch = p.touch; pending = p.pending; answer = a })) _ h)
try_touch s t killed grant (touch.Abort p) h = goes _ _ h
try_touch s t killed grant (touch.Taken p) h = commit s p.touch.file p.pending _ _ h
try_touch s t killed grant (touch.Settle p) h = settle_one s _ h
try_touch s t killed grant (touch.Committed p) h =
    test (nat_le (s.size p.touch.file) p.touch.index) (λ _. goes _ s h)
    (λ _. test grant
    (λ _. pick (nat_lt p.touch.index s.geometry.limit)
    (λ e. goes _ _ (clear_placed s.geometry.limit s.pages p.touch.file p.touch.index p.held h e)) (λ _. None))
    (λ _. goes _ s h))
try_touch s t killed grant (touch.Restore p) h = goes _ _ h
try_touch s t killed grant (touch.Found p) h =
    test (nat_le (s.size p.touch.file) p.touch.index) (λ _. goes _ s h)
    (λ _. test grant
    (λ _. bind (what_is (s.pages p.touch.file p.touch.index))
    (λ x. bind (word_at (s.frame x.0)) (λ w. Some (Moved _, _, (x.0, w.0, x.1, w.1, (refl, refl)), h))))
    (λ _. goes _ s h))
try_touch s t killed grant (touch.Leave p) h = ends _ _ h

abbrev pub try_map : (s : Pool) (t : ℕ) (killed grant : Bool) (phase : MapPhase) → Clear s.geometry.limit s.pages
    → Tried (MapRow s t killed grant phase)
try_map s t killed grant (map.Start p) h = start s t killed p.map.file _ _ _ _ h
try_map s t killed grant (map.Room p) h =
    bind (seek s.geometry.space (s.mappings t) p.map.len (suc s.geometry.space) 0 (λ other l. absurd (none_below other l)))
    (λ base. grown (Some base.0) base.1
    (test grant (λ _. test p.map.reserve (λ _. goes _ _ h) (λ _. goes _ _ h)) (λ _. goes _ s h)))
try_map s t killed grant (map.Missing p) h =
    change s grant p.map.file p.map.from (p.map.from + p.map.len) _
    (λ c. map.Changed (record { map = p.map; base = p.base; pending = c })) h
try_map s t killed grant (map.Changed p) h =
    test killed (λ _. goes _ s h) (λ _. test (exceeds_quota s p.pending.missing) (λ _. goes _ s h)
    (λ _. test (nat_lt (frees s - s.resv) p.pending.missing) (λ _. goes _ s h) (λ _. goes _ _ h)))
try_map s t killed grant (map.Abort p) h = goes _ _ h
try_map s t killed grant (map.Accounted p) h =
    test (nat_lt (missing (s.reserved p.map.file) p.pending.from p.pending.to) p.pending.missing) (λ _. goes _ _ h)
    (λ _. goes _ _ h)
try_map s t killed grant (map.Settle p) h =
    bind (at_most p.excess s.resv)
    (λ low. bind (at_most p.excess s.used) (λ used. Some (Moved _, _, (low, used, (refl, refl)), h)))
try_map s t killed grant (map.Enter p) h = goes _ _ h
try_map s t killed grant (map.Leave p) h = ends _ _ h

abbrev pub try_alloc : (s : Pool) (t : ℕ) (killed grant : Bool) (phase : AllocPhase) → Clear s.geometry.limit s.pages
    → Tried (AllocRow s t killed grant phase)
try_alloc s t killed grant (alloc.Start p) h = start s t killed p.allocation.file _ _ _ _ h
try_alloc s t killed grant (alloc.Head p) h = test killed (λ _. goes _ s h) (λ _. goes _ s h)
try_alloc s t killed grant (alloc.Want p) h = test killed (λ _. goes _ s h) (λ _. want s t p.allocation.file p.index _ _ h)
try_alloc s t killed grant (alloc.Locked p) h =
    test (is_some (s.pages p.allocation.file p.index)) (λ _. goes _ s h) (λ _. goes _ s h)
try_alloc s t killed grant (alloc.Missing p) h =
    change s grant p.allocation.file p.index (p.index + 1) _
    (λ c. alloc.Changed (record { allocation = p.allocation; index = p.index; pending = c })) h
try_alloc s t killed grant (alloc.Changed p) h =
    test killed (λ _. goes _ s h)
    (λ _. take s p.pending.missing
    (λ a. alloc.Abort (record { allocation = p.allocation; index = p.index; pending = p.pending; answer = a })) _ h)
try_alloc s t killed grant (alloc.Abort p) h = goes _ _ h
try_alloc s t killed grant (alloc.Taken p) h = commit s p.allocation.file p.pending _ _ h
try_alloc s t killed grant (alloc.Settle p) h = settle_one s _ h
try_alloc s t killed grant (alloc.Committed p) h =
    test grant
    (λ _. pick (nat_lt p.index s.geometry.limit)
    (λ e. goes _ _ (clear_placed s.geometry.limit s.pages p.allocation.file p.index p.held h e)) (λ _. None))
    (λ _. goes _ s h)
try_alloc s t killed grant (alloc.Restore p) h = goes _ _ h
try_alloc s t killed grant (alloc.Unslot p) h =
    option p.answer
    (λ _. test (nat_lt (p.index + 1) (p.allocation.from + p.allocation.len)) (λ _. goes _ _ h)
    (λ _. test p.allocation.keep (λ _. goes _ _ h) (λ _. goes _ _ h)))
    (λ a _. goes _ _ h)
try_alloc s t killed grant (alloc.Extend p) h = goes _ _ h
try_alloc s t killed grant (alloc.Leave p) h = ends _ _ h

abbrev pub try_punch : (s : Pool) (t : ℕ) (killed grant : Bool) (phase : PunchPhase) → Clear s.geometry.limit s.pages
    → Tried (PunchRow s t killed grant phase)
try_punch s t killed grant (punch.Start p) h = start s t killed p.hole.file _ _ _ _ h
try_punch s t killed grant (punch.Want p) h = want s t p.hole.file p.index _ _ h
try_punch s t killed grant (punch.Locked p) h =
    test (is_some (s.pages p.hole.file p.index)) (λ _. goes _ s h) (λ _. goes _ s h)
try_punch s t killed grant (punch.Unmap p) h = unmap_index s p.task p.hole.file p.index _ _ h
try_punch s t killed grant (punch.Evict p) h = evict s p.hole.file p.index _ h
try_punch s t killed grant (punch.Delete p) h =
    test (splits (s.reserved p.hole.file) p.index && nat_le (s.spare p.hole.file) (s.pending p.hole.file) && not grant)
    (λ _. goes _ s h) (λ _. goes _ _ h)
try_punch s t killed grant (punch.Free p) h =
    test p.denied (λ _. goes _ _ h) (λ _. bind (at_most 1 s.used) (λ used. Some (Moved _, _, (used, (refl, refl)), h)))
try_punch s t killed grant (punch.Unslot p) h =
    test (nat_lt (p.index + 1) (p.hole.from + p.hole.len)) (λ _. goes _ _ h) (λ _. goes _ _ h)
try_punch s t killed grant (punch.Leave p) h = ends _ _ h

abbrev pub try_truncate : (s : Pool) (t : ℕ) (killed grant : Bool) (phase : TruncatePhase)
    → Clear s.geometry.limit s.pages → Tried (TruncateRow s t killed grant phase)
try_truncate s t killed grant (truncate.Start p) h = start s t killed p.truncation.file _ _ _ _ h
try_truncate s t killed grant (truncate.Size p) h =
    let o = end_of (s.pages p.truncation.file) s.geometry.limit (λ i l. h p.truncation.file i l) in
    grown o.0 o.1 (test (nat_lt p.truncation.new (max (s.size p.truncation.file) o.0)) (λ _. goes _ _ h) (λ _. goes _ _ h))
try_truncate s t killed grant (truncate.Want p) h = want s t p.truncation.file p.index _ _ h
try_truncate s t killed grant (truncate.Locked p) h =
    test (is_some (s.pages p.truncation.file p.index)) (λ _. goes _ s h) (λ _. goes _ s h)
try_truncate s t killed grant (truncate.Unmap p) h = unmap_index s p.task p.truncation.file p.index _ _ h
try_truncate s t killed grant (truncate.Evict p) h = evict s p.truncation.file p.index _ h
try_truncate s t killed grant (truncate.Free p) h = goes _ _ h
try_truncate s t killed grant (truncate.Unslot p) h =
    test (nat_lt p.truncation.new p.index) (λ _. goes _ _ h) (λ _. goes _ _ h)
try_truncate s t killed grant (truncate.Tail p) h = goes _ _ h
try_truncate s t killed grant (truncate.Settle p) h =
    bind (at_most p.excess s.resv)
    (λ low. bind (at_most (p.excess + p.evicted) s.used) (λ used. Some (Moved _, _, (low, used, (refl, refl)), h)))
try_truncate s t killed grant (truncate.Leave p) h = ends _ _ h

abbrev pub try_unmap : (s : Pool) (t : ℕ) (killed grant : Bool) (phase : UnmapPhase) → Clear s.geometry.limit s.pages
    → Tried (UnmapRow s t killed grant phase)
try_unmap s t killed grant (unmap.Start p) h = test (is_base (s.mappings t) p.base) (λ _. goes _ s h) (λ _. ends _ s h)
try_unmap s t killed grant (unmap.Clear p) h = goes _ _ h
try_unmap s t killed grant (unmap.Drop p) h = ends _ _ h

abbrev pub try_exit : (s : Pool) (t : ℕ) (killed grant : Bool) (phase : ExitPhase) → Clear s.geometry.limit s.pages
    → Tried (ExitRow s t killed grant phase)
try_exit s t killed grant exit.Start h = option (first_base (s.mappings t)) (λ _. goes _ s h) (λ base _. goes _ s h)
try_exit s t killed grant (exit.Clear p) h = goes _ _ h
try_exit s t killed grant (exit.Drop p) h =
    option (first_base (without (s.mappings t) p.base)) (λ _. goes _ _ h) (λ base _. goes _ _ h)
try_exit s t killed grant exit.Leave h = ends _ s h

-- some outcome, pool and call left meet the row of a call, where this finds them
abbrev pub Made : (Outcome → Pool → Option Call → Type 0) → Type 0
Made row = Option ((o : Outcome) × (new : Pool) × (next : Option Call) × row o new next × Clear new.geometry.limit new.pages)

-- so they do where some turn meets the row of its operation
abbrev pub by : {P : Type 0} (call : P → Call) (row : Turn P → Pool → Type 0) → Tried row → Made (TurnRow call row)
by call row None = None
by call row (Some r) = Some (outcome_of call r.0, r.1, left call r.0, (r.0, r.2, refl, refl), r.3)

-- one step of a call of the right machine
abbrev pub try_call : (s : Pool) (t : ℕ) (killed grant : Bool) (c : Call) → Clear s.geometry.limit s.pages
    → Made (CallRow s t killed grant c)
unfolding CallRow
try_call s t killed grant (call.Touch p) h = by call.Touch _ (try_touch s t killed grant p h)
try_call s t killed grant (call.Map p) h = by call.Map _ (try_map s t killed grant p h)
try_call s t killed grant (call.Alloc p) h = by call.Alloc _ (try_alloc s t killed grant p h)
try_call s t killed grant (call.Punch p) h = by call.Punch _ (try_punch s t killed grant p h)
try_call s t killed grant (call.Truncate p) h = by call.Truncate _ (try_truncate s t killed grant p h)
try_call s t killed grant (call.Unmap p) h = by call.Unmap _ (try_unmap s t killed grant p h)
try_call s t killed grant (call.Exit p) h = by call.Exit _ (try_exit s t killed grant p h)
