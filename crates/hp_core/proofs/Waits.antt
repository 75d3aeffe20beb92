-- Who is blocked, and by whom: the reader against the rows of the machine.
use Rattle.std.proofs.Common.{◌≡◌, ℕ, ◌+◌, ◌-◌, ◌≤◌, refl, sym, ◌∙◌, ap, subst, true≢false}
use Rattle.std.specs.Prelude.{Bool, true, false, ◌||◌, ◌==◌, Option, Some, None, MatchBool, MatchOption, length, is_some, nat_le}
use Rattle.std.specs.Prelude.{nat_lt, if◌then◌else◌, slice_index_or}
use Rattle.hp_base.specs.declared.limits.TheConstants.{LIMIT}
use Rattle.hp_base.specs.Numbers.{put, put2}
use Rattle.hp_base.proofs.Puts.{put_self}
use Rattle.hp_base.specs.declared.answer.Answer.{Answer}
use Rattle.hp_base.specs.declared.answer.Answer.TheVariants as answer
use Rattle.hp_machine.specs.declared.outcome.Life.{Life}
use Rattle.hp_machine.specs.State.{Pool, State, frees, exceeds_quota, quota_is_used_up, is_dead, is_killed}
use Rattle.hp_machine.specs.Events as rows
use Rattle.hp_frames.specs.Bank.{frame_at}
use Rattle.hp_frames.specs.declared.frame.FrameState.TheVariants.{Free, Hand, Placed}
use Rattle.hp_machine.specs.Parts.{Goes, Ends, TakeRow, answer_of, frame_after}
use Rattle.hp_machine.specs.MapRows.{MapRow}
use Rattle.hp_machine.specs.TouchRows.{TouchRow}
use Rattle.hp_machine.specs.ExitRows.{ExitRow}
use Rattle.hp_machine.specs.UnmapRows.{UnmapRow}
use Rattle.hp_machine.specs.TruncateRows.{TruncateRow}
use Rattle.hp_machine.specs.PunchRows.{PunchRow}
use Rattle.hp_machine.specs.AllocRows.{AllocRow}
use Rattle.hp_machine.specs.declared.call.Call.{Call}
use Rattle.hp_machine.specs.declared.call.Call.TheVariants as call
use Rattle.hp_machine.specs.declared.call.Turn.{Turn}
use Rattle.hp_machine.specs.declared.call.Turn.TheVariants.{Moved, Blocked, Ended}
use Rattle.hp_machine.specs.declared.map.MapPhase.{MapPhase}
use Rattle.hp_machine.specs.declared.map.MapPhase.TheVariants as at
use Rattle.hp_machine.specs.declared.touch.TouchPhase.{TouchPhase}
use Rattle.hp_machine.specs.declared.touch.TouchPhase.TheVariants as touch
use Rattle.hp_machine.specs.declared.alloc.AllocPhase.{AllocPhase}
use Rattle.hp_machine.specs.declared.alloc.AllocPhase.TheVariants as alloc
use Rattle.hp_machine.specs.declared.punch.PunchPhase.{PunchPhase}
use Rattle.hp_machine.specs.declared.punch.PunchPhase.TheVariants as punch
use Rattle.hp_machine.specs.declared.truncate.TruncatePhase.{TruncatePhase}
use Rattle.hp_machine.specs.declared.truncate.TruncatePhase.TheVariants as truncate
use Rattle.hp_machine.specs.declared.unmap.UnmapPhase.{UnmapPhase}
use Rattle.hp_machine.specs.declared.unmap.UnmapPhase.TheVariants as unmap
use Rattle.hp_machine.specs.declared.exit.ExitPhase.{ExitPhase}
use Rattle.hp_machine.specs.declared.exit.ExitPhase.TheVariants as exit
use Rattle.hp_machine.specs.declared.outcome.Outcome.{Outcome}
use Rattle.hp_machine.specs.declared.outcome.Outcome.TheVariants as outcome
use Rattle.hp_slots.specs.Holders.{slot_number}
use Rattle.hp_parts.specs.State.{PartsState, IsSized}
use Rattle.hp_parts.specs.View.{pool_of, holders_of, sizes_of, pages_of, entries_of}
use Rattle.hp_core.specs.State.{CoreState, task_state_at, calls_of, lives_of, as_state}
use Rattle.hp_core.specs.Sound.{IsSound}
use Rattle.hp_core.specs.Runs.{Row}
use Rattle.hp_core.specs.Waiting.{WaitsFor}
use Rattle.hp_core.specs.Blockers.{is_bad, slot_blocker, touch_blocker, map_blocker, alloc_blocker, punch_blocker}
use Rattle.hp_core.specs.Blockers.{truncate_blocker, call_blocker, task_state_call_blocker, task_blocker}
use Rattle.hp_core.proofs.TaskStates.{by_test, by_option, at_false, at_some}

-- the holder that a turn was blocked by
abbrev pub held_up : {P : Type 0} → Turn P → Option ℕ
held_up (Moved p) = None
held_up (Blocked p holder) = Some holder
held_up (Ended a) = None

-- the holder that an outcome names
abbrev pub told_of : Outcome → Option ℕ
told_of (outcome.Blocked holder) = Some holder
told_of other = None

-- the tests at the start of a call on a file, and who holds it up
start_held : {P : Type 0} (x y z : Bool) (o : Option ℕ) (turn : Turn P) (s new : Pool) (a b c : Answer) (next here : P) (taken : Pool)
    → MatchBool x ((turn ≡ Ended a) × (new ≡ s))
    (MatchBool y ((turn ≡ Ended b) × (new ≡ s))
    (MatchBool z ((turn ≡ Ended c) × (new ≡ s))
    (MatchOption o ((turn ≡ Moved next) × (new ≡ taken)) (λ h. (turn ≡ Blocked here h) × (new ≡ s)))))
    → held_up turn ≡ (if x || y || z then None else o)
start_held true y z o turn s new a b c next here taken r = ap held_up r.0
start_held false true z o turn s new a b c next here taken r = ap held_up r.0
start_held false false true o turn s new a b c next here taken r = ap held_up r.0
start_held false false false None turn s new a b c next here taken r = ap held_up r.0
start_held false false false (Some h) turn s new a b c next here taken r = ap held_up r.0

-- equal options have equal values
same_holder : (k h : ℕ) → ◌≡◌ {A = Option ℕ} (Some k) (Some h) → k ≡ h
same_holder k h e = ap (λ (o : Option ℕ). elim o [ None ↦ k | Some x ↦ x ]) e

-- where nobody is named, nobody holds it up
pub nobody : {A : Type 0} (h : ℕ) → ◌≡◌ {A = Option ℕ} None (Some h) → A
nobody {A} h e = absurd (true≢false (ap (λ (o : Option ℕ). elim o [ None ↦ true | Some x ↦ false ]) e))

-- where the reader names the holder of a lock, the turn at a call's start that waits for it is a row
start_blocks : {P : Type 0} (x y z : Bool) (o : Option ℕ) (h : ℕ) (s : Pool) (a b c : Answer) (next here : P) (taken : Pool)
    → (if x || y || z then None else o) ≡ Some h
    → MatchBool x ((Blocked here h ≡ Ended a) × (s ≡ s))
    (MatchBool y ((Blocked here h ≡ Ended b) × (s ≡ s))
    (MatchBool z ((Blocked here h ≡ Ended c) × (s ≡ s))
    (MatchOption o ((Blocked here h ≡ Moved next) × (s ≡ taken)) (λ k. (Blocked here h ≡ Blocked here k) × (s ≡ s)))))
start_blocks true y z o h s a b c next here taken e = nobody h e
start_blocks false true z o h s a b c next here taken e = nobody h e
start_blocks false false true o h s a b c next here taken e = nobody h e
start_blocks false false false None h s a b c next here taken e = nobody h e
start_blocks false false false (Some k) h s a b c next here taken e = (ap (λ (u : ℕ). Blocked here u) (sym (same_holder k h e)), refl)

-- whichever way it goes, the call moves on
moves : {P : Type 0} (b : Bool) (turn : Turn P) (first second new : Pool) (x y : P)
    → MatchBool b ((turn ≡ Moved x) × (new ≡ first)) ((turn ≡ Moved y) × (new ≡ second)) → held_up turn ≡ None
moves true turn first second new x y r = ap held_up r.0
moves false turn first second new x y r = ap held_up r.0

-- a row of two tests that always moves waits for nobody, the second test in the second case
moves_on : {P : Type 0} (a b : Bool) (turn : Turn P) (first second third new : Pool) (x y z : P)
    → MatchBool a ((turn ≡ Moved x) × (new ≡ first)) (MatchBool b ((turn ≡ Moved y) × (new ≡ second)) ((turn ≡ Moved z) × (new ≡ third)))
    → held_up turn ≡ None
moves_on true b turn first second third new x y z r = ap held_up r.0
moves_on false b turn first second third new x y z r = moves b turn second third new y z r

-- of three tests
moves_at_last : {P : Type 0} (a b c : Bool) (turn : Turn P) (first second third fourth new : Pool) (w x y z : P)
    → MatchBool a ((turn ≡ Moved w) × (new ≡ first))
    (MatchBool b ((turn ≡ Moved x) × (new ≡ second))
    (MatchBool c ((turn ≡ Moved y) × (new ≡ third)) ((turn ≡ Moved z) × (new ≡ fourth))))
    → held_up turn ≡ None
moves_at_last true b c turn first second third fourth new w x y z r = ap held_up r.0
moves_at_last false b c turn first second third fourth new w x y z r = moves_on b c turn second third fourth new x y z r

-- or in the first
moves_in : {P : Type 0} (a b : Bool) (turn : Turn P) (first second third new : Pool) (x y z : P)
    → MatchBool a (MatchBool b ((turn ≡ Moved y) × (new ≡ second)) ((turn ≡ Moved z) × (new ≡ third))) ((turn ≡ Moved x) × (new ≡ first))
    → held_up turn ≡ None
moves_in true b turn first second third new x y z r = moves b turn second third new y z r
moves_in false b turn first second third new x y z r = ap held_up r.0

-- a turn of a map is held up by whom the reader names
map_held : (p : PartsState) (t : ℕ) (killed grant : Bool) (phase : MapPhase) (turn : Turn MapPhase) (new : Pool)
    → MapRow (pool_of p) t killed grant phase turn new → held_up turn ≡ map_blocker p killed phase
unfolding holders_of
map_held p t killed grant (at.Start q) turn new row =
    start_held (nat_le (length p.files) q.map.file) ((q.map.len == 0) || nat_lt LIMIT (q.map.from + q.map.len)) killed
    (slice_index_or p.locks q.map.file None) turn (pool_of p) new
    answer.BadFile answer.BadRange answer.Killed (at.Room (record { map = q.map })) (at.Start q)
    (record (pool_of p) { locks = put (holders_of p.locks) q.map.file (Some t) }) row
map_held p t killed grant (at.Room q) turn new row = by_option row.0 row.2
    (λ none r. ap (λ (u : Turn MapPhase). held_up u) r.0)
    (λ base some m. moves_in grant q.map.reserve turn _ _ _ new _ _ _ m)
map_held p t killed grant (at.Missing q) turn new row = moves _ turn _ _ new _ _ row
map_held p t killed grant (at.Changed q) turn new row =
    moves_at_last killed (exceeds_quota (pool_of p) q.pending.missing) _ turn _ _ _ _ new
    (at.Abort (record { map = q.map; pending = q.pending; answer = answer.Killed }))
    (at.Abort (record { map = q.map; pending = q.pending; answer = answer.NoQuota }))
    (at.Abort (record { map = q.map; pending = q.pending; answer = answer.NoFrame }))
    (at.Accounted (record { map = q.map; base = q.base; pending = q.pending })) row
map_held p t killed grant (at.Abort q) turn new row = ap (λ (u : Turn MapPhase). held_up u) row.0
map_held p t killed grant (at.Accounted q) turn new row = moves _ turn _ _ new _ _ row
map_held p t killed grant (at.Settle q) turn new row = ap (λ (u : Turn MapPhase). held_up u) row.2.0
map_held p t killed grant (at.Enter q) turn new row = ap (λ (u : Turn MapPhase). held_up u) row.0
map_held p t killed grant (at.Leave q) turn new row = ap (λ (u : Turn MapPhase). held_up u) row.0

-- and where it names someone, the turn that waits for it is a row
map_blocks : (p : PartsState) (t : ℕ) (killed grant : Bool) (phase : MapPhase) (h : ℕ) → map_blocker p killed phase ≡ Some h
    → MapRow (pool_of p) t killed grant phase (Blocked phase h) (pool_of p)
unfolding holders_of
map_blocks p t killed grant (at.Start q) h e =
    start_blocks (nat_le (length p.files) q.map.file) ((q.map.len == 0) || nat_lt LIMIT (q.map.from + q.map.len))
    killed (slice_index_or p.locks q.map.file None) h (pool_of p)
    answer.BadFile answer.BadRange answer.Killed (at.Room (record { map = q.map })) (at.Start q)
    (record (pool_of p) { locks = put (holders_of p.locks) q.map.file (Some t) }) e
map_blocks p t killed grant (at.Room q) h e = nobody h e
map_blocks p t killed grant (at.Missing q) h e = nobody h e
map_blocks p t killed grant (at.Changed q) h e = nobody h e
map_blocks p t killed grant (at.Abort q) h e = nobody h e
map_blocks p t killed grant (at.Accounted q) h e = nobody h e
map_blocks p t killed grant (at.Settle q) h e = nobody h e
map_blocks p t killed grant (at.Enter q) h e = nobody h e
map_blocks p t killed grant (at.Leave q) h e = nobody h e

-- where a slot is wanted, a kill comes first
want_blocks : {P : Type 0} (killed : Bool) (o : Option ℕ) (h : ℕ) (s taken : Pool) (At : Type 0) (next here : P)
    → (if killed then None else o) ≡ Some h
    → MatchBool killed At (MatchOption o ((Blocked here h ≡ Moved next) × (s ≡ taken)) (λ k. (Blocked here h ≡ Blocked here k) × (s ≡ s)))
want_blocks true o h s taken At next here e = nobody h e
want_blocks false None h s taken At next here e = nobody h e
want_blocks false (Some k) h s taken At next here e = (ap (λ (u : ℕ). Blocked here u) (sym (same_holder k h e)), refl)

-- a row that takes a frame waits for nobody, where its takes don't
take_cases : {P : Type 0} (none up all : Bool) (turn : Turn P) (s new : Pool) (no_quota no_frame : P) (Reserved Unreserved : Type 0)
    → MatchBool none Reserved
    (MatchBool up ((turn ≡ Moved no_quota) × (new ≡ s)) (MatchBool all ((turn ≡ Moved no_frame) × (new ≡ s)) Unreserved))
    → (Reserved → held_up turn ≡ None) → (Unreserved → held_up turn ≡ None) → held_up turn ≡ None
take_cases true up all turn s new no_quota no_frame Reserved Unreserved r first second = first r
take_cases false true all turn s new no_quota no_frame Reserved Unreserved r first second = ap held_up r.0
take_cases false false true turn s new no_quota no_frame Reserved Unreserved r first second = ap held_up r.0
take_cases false false false turn s new no_quota no_frame Reserved Unreserved r first second = second r

-- a frame is taken, or there is none, or the quota is used up
take_held : {P : Type 0} (s : Pool) (missing : ℕ) (refused : Answer → P) (taken : ℕ → P) (turn : Turn P) (new : Pool)
    → TakeRow s missing refused taken turn new → held_up turn ≡ None
take_held s missing refused taken turn new row =
    take_cases (missing == 0) (quota_is_used_up s) (frees s == s.resv) turn s new (refused answer.NoQuota) (refused answer.NoFrame)
    ((x : ℕ) × (s.frame x ≡ Free) × (1 ≤ s.resv) × Goes (taken x) (record s { frame = put s.frame x Hand; resv = s.resv - 1 }) turn new)
    ((x : ℕ) × (s.frame x ≡ Free) × Goes (taken x) (record s { frame = put s.frame x Hand; used = s.used + 1 }) turn new)
    row (λ r. ap held_up r.3.0) (λ r. ap held_up r.2.0)

-- a look for a page and its entry
look_held : {P : Type 0} (place : Option (ℕ × ℕ)) (entry : Option ℕ) (turn : Turn P) (s new : Pool) (a : Answer)
    (next : ℕ × ℕ → P) (Reads : ℕ → Type 0)
    → MatchOption place ((turn ≡ Ended a) × (new ≡ s)) (λ k. MatchOption entry ((turn ≡ Moved (next k)) × (new ≡ s)) Reads)
    → ((x : ℕ) → Reads x → held_up turn ≡ None) → held_up turn ≡ None
look_held None entry turn s new a next Reads r reads = ap held_up r.0
look_held (Some k) None turn s new a next Reads r reads = ap held_up r.0
look_held (Some k) (Some x) turn s new a next Reads r reads = reads x r

-- so a touch that found its page, where its reading doesn't
found_held : {P : Type 0} (a b : Bool) (turn : Turn P) (s new : Pool) (x z : P) (Reads : Type 0)
    → MatchBool a ((turn ≡ Moved x) × (new ≡ s)) (MatchBool b Reads ((turn ≡ Moved z) × (new ≡ s)))
    → (Reads → held_up turn ≡ None) → held_up turn ≡ None
found_held true b turn s new x z Reads r reads = ap held_up r.0
found_held false true turn s new x z Reads r reads = reads r
found_held false false turn s new x z Reads r reads = ap held_up r.0

-- a turn of a touch is held up by whom the reader names
touch_held : (p : PartsState) (t : ℕ) (killed grant : Bool) (phase : TouchPhase) (turn : Turn TouchPhase) (new : Pool)
    → TouchRow (pool_of p) t killed grant phase turn new → held_up turn ≡ touch_blocker p killed phase
unfolding holders_of
touch_held p t killed grant (touch.Look q) turn new row =
    look_held _ _ turn _ new _ _
    (λ x. (word : ℕ) × (frame_at p.bank.frames x ≡ Placed word)
    × Ends (answer_of q.access word) (record (pool_of p) { frame = frame_after q.access (frame_at p.bank.frames) x })
    turn new) row (λ x r. ap held_up r.2.0)
touch_held p t killed grant (touch.Want q) turn new row = by_test killed row
    (λ e r. rw e (ap held_up r.0))
    (λ e r. rw e (by_option _ r (λ none m. ap held_up m.0 ∙ sym none) (λ h some m. ap held_up m.0 ∙ sym some)))
touch_held p t killed grant (touch.Locked q) turn new row =
    moves_on (nat_le (sizes_of p.files q.touch.file) q.touch.index)
    (is_some (pages_of p.files q.touch.file q.touch.index)) turn _ _ _ new _ _ _ row
touch_held p t killed grant (touch.Missing q) turn new row = moves _ turn _ _ new _ _ row
touch_held p t killed grant (touch.Changed q) turn new row =
    by_test killed row (λ _ r. ap held_up r.0) (λ _ r. take_held (pool_of p) q.pending.missing
    (λ a. touch.Abort (record { touch = q.touch; pending = q.pending; answer = a })) _ turn new r)
touch_held p t killed grant (touch.Abort q) turn new row = ap held_up row.0
touch_held p t killed grant (touch.Taken q) turn new row = moves _ turn _ _ new _ _ row
touch_held p t killed grant (touch.Settle q) turn new row = ap held_up row.2.0
touch_held p t killed grant (touch.Committed q) turn new row =
    moves_on (nat_le (sizes_of p.files q.touch.file) q.touch.index) grant turn _ _ _ new _ _ _ row
touch_held p t killed grant (touch.Restore q) turn new row = ap held_up row.0
touch_held p t killed grant (touch.Found q) turn new row =
    found_held _ grant turn _ new _ _
    ((x : ℕ) × (word : ℕ) × (pages_of p.files q.touch.file q.touch.index ≡ Some x) × (frame_at p.bank.frames x ≡ Placed word)
    × Goes (touch.Leave (record { touch = q.touch; answer = answer_of q.touch.access word }))
    (record (pool_of p) {
      entries = put2 (entries_of p.spaces) t q.touch.vpn (Some x);
      frame = frame_after q.touch.access (frame_at p.bank.frames) x;
    }) turn new)
    row (λ r. ap held_up r.4.0)
touch_held p t killed grant (touch.Leave q) turn new row = ap held_up row.0

-- and where it names someone, the turn that waits for it is a row
touch_blocks : (p : PartsState) (t : ℕ) (killed grant : Bool) (phase : TouchPhase) (h : ℕ) → touch_blocker p killed phase ≡ Some h
    → TouchRow (pool_of p) t killed grant phase (Blocked phase h) (pool_of p)
unfolding holders_of
touch_blocks p t killed grant (touch.Look q) h e = nobody h e
touch_blocks p t killed grant (touch.Want q) h e =
    want_blocks killed (slice_index_or p.slots (slot_number (length p.slots) q.touch.file q.touch.index) None) h
    (pool_of p) _ _ (touch.Locked (record { touch = q.touch })) (touch.Want q) e
touch_blocks p t killed grant (touch.Locked q) h e = nobody h e
touch_blocks p t killed grant (touch.Missing q) h e = nobody h e
touch_blocks p t killed grant (touch.Changed q) h e = nobody h e
touch_blocks p t killed grant (touch.Abort q) h e = nobody h e
touch_blocks p t killed grant (touch.Taken q) h e = nobody h e
touch_blocks p t killed grant (touch.Settle q) h e = nobody h e
touch_blocks p t killed grant (touch.Committed q) h e = nobody h e
touch_blocks p t killed grant (touch.Restore q) h e = nobody h e
touch_blocks p t killed grant (touch.Found q) h e = nobody h e
touch_blocks p t killed grant (touch.Leave q) h e = nobody h e

-- the slot is taken, or its holder is waited for
slot_held_up : {P : Type 0} (o : Option ℕ) (turn : Turn P) (s new taken : Pool) (next here : P)
    → MatchOption o ((turn ≡ Moved next) × (new ≡ taken)) (λ h. (turn ≡ Blocked here h) × (new ≡ s)) → held_up turn ≡ o
slot_held_up None turn s new taken next here r = ap held_up r.0
slot_held_up (Some h) turn s new taken next here r = ap held_up r.0

-- the slot is left: to the next index, or on with the answer
unslot_held : {P : Type 0} (o : Option Answer) (a b : Bool) (turn : Turn P) (after new : Pool) (x y z : P) (w : Answer → P)
    → MatchOption o (MatchBool a ((turn ≡ Moved x) × (new ≡ after))
    (MatchBool b ((turn ≡ Moved y) × (new ≡ after)) ((turn ≡ Moved z) × (new ≡ after))))
    (λ k. (turn ≡ Moved (w k)) × (new ≡ after))
    → held_up turn ≡ None
unslot_held None a b turn after new x y z w r = moves_on a b turn after after after new x y z r
unslot_held (Some k) a b turn after new x y z w r = ap held_up r.0

-- to the mapping with the least base, or to the end
leads_on : {P : Type 0} (o : Option ℕ) (turn : Turn P) (after new : Pool) (x : P) (y : ℕ → P)
    → MatchOption o ((turn ≡ Moved x) × (new ≡ after)) (λ base. (turn ≡ Moved (y base)) × (new ≡ after)) → held_up turn ≡ None
leads_on None turn after new x y r = ap held_up r.0
leads_on (Some base) turn after new x y r = ap held_up r.0

-- a turn of an allocation is held up by whom the reader names
alloc_held : (p : PartsState) (t : ℕ) (killed grant : Bool) (phase : AllocPhase) (turn : Turn AllocPhase) (new : Pool)
    → AllocRow (pool_of p) t killed grant phase turn new → held_up turn ≡ alloc_blocker p killed phase
unfolding holders_of
alloc_held p t killed grant (alloc.Start q) turn new row =
    start_held (nat_le (length p.files) q.allocation.file) (is_bad q.allocation.from q.allocation.len) killed
    (slice_index_or p.locks q.allocation.file None) turn (pool_of p) new
    answer.BadFile answer.BadRange answer.Interrupted _ (alloc.Start q) _ row
alloc_held p t killed grant (alloc.Head q) turn new row = moves killed turn _ _ new _ _ row
alloc_held p t killed grant (alloc.Want q) turn new row = by_test killed row
    (λ e r. rw e (ap held_up r.0))
    (λ e r. rw e (slot_held_up _ turn _ new _ _ _ r))
alloc_held p t killed grant (alloc.Locked q) turn new row = moves _ turn _ _ new _ _ row
alloc_held p t killed grant (alloc.Missing q) turn new row = moves _ turn _ _ new _ _ row
alloc_held p t killed grant (alloc.Changed q) turn new row =
    by_test killed row (λ _ r. ap held_up r.0) (λ _ r. take_held (pool_of p) q.pending.missing
    (λ a. alloc.Abort (record { allocation = q.allocation; index = q.index; pending = q.pending; answer = a })) _ turn new r)
alloc_held p t killed grant (alloc.Abort q) turn new row = ap held_up row.0
alloc_held p t killed grant (alloc.Taken q) turn new row = moves _ turn _ _ new _ _ row
alloc_held p t killed grant (alloc.Settle q) turn new row = ap held_up row.2.0
alloc_held p t killed grant (alloc.Committed q) turn new row = moves grant turn _ _ new _ _ row
alloc_held p t killed grant (alloc.Restore q) turn new row = ap held_up row.0
alloc_held p t killed grant (alloc.Unslot q) turn new row =
    unslot_held q.answer (nat_lt (q.index + 1) (q.allocation.from + q.allocation.len)) q.allocation.keep turn _ new _ _ _ _ row
alloc_held p t killed grant (alloc.Extend q) turn new row = ap held_up row.0
alloc_held p t killed grant (alloc.Leave q) turn new row = ap held_up row.0

-- and where the reader names someone, the turn that waits for it is a row
alloc_blocks : (p : PartsState) (t : ℕ) (killed grant : Bool) (phase : AllocPhase) (h : ℕ) → alloc_blocker p killed phase ≡ Some h
    → AllocRow (pool_of p) t killed grant phase (Blocked phase h) (pool_of p)
unfolding holders_of
alloc_blocks p t killed grant (alloc.Start q) h e =
    start_blocks (nat_le (length p.files) q.allocation.file) (is_bad q.allocation.from q.allocation.len) killed
    (slice_index_or p.locks q.allocation.file None) h (pool_of p)
    answer.BadFile answer.BadRange answer.Interrupted
    (alloc.Head (record { allocation = q.allocation; index = q.allocation.from })) (alloc.Start q)
    (record (pool_of p) { locks = put (holders_of p.locks) q.allocation.file (Some t) }) e
alloc_blocks p t killed grant (alloc.Head q) h e = nobody h e
alloc_blocks p t killed grant (alloc.Want q) h e =
    want_blocks killed (slot_blocker p q.allocation.file q.index) h (pool_of p) _ _
    (alloc.Locked (record { allocation = q.allocation; index = q.index })) (alloc.Want q) e
alloc_blocks p t killed grant (alloc.Locked q) h e = nobody h e
alloc_blocks p t killed grant (alloc.Missing q) h e = nobody h e
alloc_blocks p t killed grant (alloc.Changed q) h e = nobody h e
alloc_blocks p t killed grant (alloc.Abort q) h e = nobody h e
alloc_blocks p t killed grant (alloc.Taken q) h e = nobody h e
alloc_blocks p t killed grant (alloc.Settle q) h e = nobody h e
alloc_blocks p t killed grant (alloc.Committed q) h e = nobody h e
alloc_blocks p t killed grant (alloc.Restore q) h e = nobody h e
alloc_blocks p t killed grant (alloc.Unslot q) h e = nobody h e
alloc_blocks p t killed grant (alloc.Extend q) h e = nobody h e
alloc_blocks p t killed grant (alloc.Leave q) h e = nobody h e

-- of a punch
punch_held : (p : PartsState) (t : ℕ) (killed grant : Bool) (phase : PunchPhase) (turn : Turn PunchPhase) (new : Pool)
    → PunchRow (pool_of p) t killed grant phase turn new → held_up turn ≡ punch_blocker p killed phase
unfolding holders_of
punch_held p t killed grant (punch.Start q) turn new row =
    start_held (nat_le (length p.files) q.hole.file) (is_bad q.hole.from q.hole.len) killed
    (slice_index_or p.locks q.hole.file None) turn (pool_of p) new
    answer.BadFile answer.BadRange answer.Killed _ (punch.Start q) _ row
punch_held p t killed grant (punch.Want q) turn new row = slot_held_up _ turn _ new _ _ _ row
punch_held p t killed grant (punch.Locked q) turn new row = moves _ turn _ _ new _ _ row
punch_held p t killed grant (punch.Unmap q) turn new row = moves _ turn _ _ new _ _ row
punch_held p t killed grant (punch.Evict q) turn new row = ap held_up row.2.0
punch_held p t killed grant (punch.Delete q) turn new row = moves _ turn _ _ new _ _ row
punch_held p t killed grant (punch.Free q) turn new row =
    by_test q.denied row (λ _ r. ap held_up r.0) (λ _ r. ap held_up r.1.0)
punch_held p t killed grant (punch.Unslot q) turn new row = moves _ turn _ _ new _ _ row
punch_held p t killed grant (punch.Leave q) turn new row = ap held_up row.0

-- and where the reader names someone, the turn that waits for it is a row
punch_blocks : (p : PartsState) (t : ℕ) (killed grant : Bool) (phase : PunchPhase) (h : ℕ) → punch_blocker p killed phase ≡ Some h
    → PunchRow (pool_of p) t killed grant phase (Blocked phase h) (pool_of p)
unfolding holders_of
punch_blocks p t killed grant (punch.Start q) h e =
    start_blocks (nat_le (length p.files) q.hole.file) (is_bad q.hole.from q.hole.len) killed
    (slice_index_or p.locks q.hole.file None) h (pool_of p)
    answer.BadFile answer.BadRange answer.Killed (punch.Want (record { hole = q.hole; index = q.hole.from }))
    (punch.Start q) (record (pool_of p) { locks = put (holders_of p.locks) q.hole.file (Some t) }) e
punch_blocks p t killed grant (punch.Want q) h e =
    want_blocks false (slot_blocker p q.hole.file q.index) h (pool_of p) _ (Unit {0})
    (punch.Locked (record { hole = q.hole; index = q.index })) (punch.Want q) e
punch_blocks p t killed grant (punch.Locked q) h e = nobody h e
punch_blocks p t killed grant (punch.Unmap q) h e = nobody h e
punch_blocks p t killed grant (punch.Evict q) h e = nobody h e
punch_blocks p t killed grant (punch.Delete q) h e = nobody h e
punch_blocks p t killed grant (punch.Free q) h e = nobody h e
punch_blocks p t killed grant (punch.Unslot q) h e = nobody h e
punch_blocks p t killed grant (punch.Leave q) h e = nobody h e

-- of a truncation
truncate_held : (p : PartsState) (t : ℕ) (killed grant : Bool) (phase : TruncatePhase) (turn : Turn TruncatePhase) (new : Pool)
    → TruncateRow (pool_of p) t killed grant phase turn new → held_up turn ≡ truncate_blocker p killed phase
unfolding holders_of
truncate_held p t killed grant (truncate.Start q) turn new row =
    start_held (nat_le (length p.files) q.truncation.file) (nat_lt LIMIT q.truncation.new) killed
    (slice_index_or p.locks q.truncation.file None) turn (pool_of p) new
    answer.BadFile answer.BadRange answer.Killed _ (truncate.Start q) _ row
truncate_held p t killed grant (truncate.Size q) turn new row = moves _ turn _ _ new _ _ row.2
truncate_held p t killed grant (truncate.Want q) turn new row = slot_held_up _ turn _ new _ _ _ row
truncate_held p t killed grant (truncate.Locked q) turn new row = moves _ turn _ _ new _ _ row
truncate_held p t killed grant (truncate.Unmap q) turn new row = moves _ turn _ _ new _ _ row
truncate_held p t killed grant (truncate.Evict q) turn new row = ap held_up row.2.0
truncate_held p t killed grant (truncate.Free q) turn new row = ap held_up row.0
truncate_held p t killed grant (truncate.Unslot q) turn new row = moves _ turn _ _ new _ _ row
truncate_held p t killed grant (truncate.Tail q) turn new row = ap held_up row.0
truncate_held p t killed grant (truncate.Settle q) turn new row = ap held_up row.2.0
truncate_held p t killed grant (truncate.Leave q) turn new row = ap held_up row.0

-- and where the reader names someone, the turn that waits for it is a row
truncate_blocks : (p : PartsState) (t : ℕ) (killed grant : Bool) (phase : TruncatePhase) (h : ℕ)
    → truncate_blocker p killed phase ≡ Some h → TruncateRow (pool_of p) t killed grant phase (Blocked phase h) (pool_of p)
unfolding holders_of
truncate_blocks p t killed grant (truncate.Start q) h e =
    start_blocks (nat_le (length p.files) q.truncation.file) (nat_lt LIMIT q.truncation.new) killed
    (slice_index_or p.locks q.truncation.file None) h (pool_of p)
    answer.BadFile answer.BadRange answer.Killed (truncate.Size (record { truncation = q.truncation }))
    (truncate.Start q) (record (pool_of p) { locks = put (holders_of p.locks) q.truncation.file (Some t) }) e
truncate_blocks p t killed grant (truncate.Size q) h e = nobody h e
truncate_blocks p t killed grant (truncate.Want q) h e =
    want_blocks false (slot_blocker p q.truncation.file q.index) h (pool_of p) _ (Unit {0})
    (truncate.Locked (record { truncation = q.truncation; index = q.index; evicted = q.evicted })) (truncate.Want q) e
truncate_blocks p t killed grant (truncate.Locked q) h e = nobody h e
truncate_blocks p t killed grant (truncate.Unmap q) h e = nobody h e
truncate_blocks p t killed grant (truncate.Evict q) h e = nobody h e
truncate_blocks p t killed grant (truncate.Free q) h e = nobody h e
truncate_blocks p t killed grant (truncate.Unslot q) h e = nobody h e
truncate_blocks p t killed grant (truncate.Tail q) h e = nobody h e
truncate_blocks p t killed grant (truncate.Settle q) h e = nobody h e
truncate_blocks p t killed grant (truncate.Leave q) h e = nobody h e

-- unmaps and exits wait for nobody
moves_or_ends : {P : Type 0} (b : Bool) (turn : Turn P) (s new : Pool) (x : P) (a : Answer)
    → MatchBool b ((turn ≡ Moved x) × (new ≡ s)) ((turn ≡ Ended a) × (new ≡ s)) → held_up turn ≡ None
moves_or_ends true turn s new x a r = ap held_up r.0
moves_or_ends false turn s new x a r = ap held_up r.0

-- an unmap's turn names nobody
unmap_held : (p : PartsState) (t : ℕ) (killed grant : Bool) (phase : UnmapPhase) (turn : Turn UnmapPhase) (new : Pool)
    → UnmapRow (pool_of p) t killed grant phase turn new → held_up turn ≡ None
unmap_held p t killed grant (unmap.Start q) turn new row = moves_or_ends _ turn _ new _ _ row
unmap_held p t killed grant (unmap.Clear q) turn new row = ap held_up row.0
unmap_held p t killed grant (unmap.Drop q) turn new row = ap held_up row.0

-- nor does an exit's
exit_held : (p : PartsState) (t : ℕ) (killed grant : Bool) (phase : ExitPhase) (turn : Turn ExitPhase) (new : Pool)
    → ExitRow (pool_of p) t killed grant phase turn new → held_up turn ≡ None
exit_held p t killed grant exit.Start turn new row = leads_on _ turn _ new _ _ row
exit_held p t killed grant (exit.Clear q) turn new row = ap held_up row.0
exit_held p t killed grant (exit.Drop q) turn new row = leads_on _ turn _ new _ _ row
exit_held p t killed grant exit.Leave turn new row = ap held_up row.0

-- what a turn tells names the holder that it waits for
told_held : {P : Type 0} (inflight : P → Call) (turn : Turn P) → told_of (rows.outcome_of inflight turn) ≡ held_up turn
told_held inflight (Moved p) = refl
told_held inflight (Blocked p h) = refl
told_held inflight (Ended a) = refl

-- so a call's step is held up by whom the reader names
call_held : (p : PartsState) (t : ℕ) (killed grant : Bool) (inflight : Call) (told : Outcome) (new : Pool) (next : Option Call)
    → rows.CallRow (pool_of p) t killed grant inflight told new next → told_of told ≡ call_blocker p killed inflight
unfolding rows.CallRow
call_held p t killed grant (call.Touch phase) told new next row =
    ap told_of row.2 ∙ (told_held call.Touch row.0 ∙ touch_held p t killed grant phase row.0 new row.1)
call_held p t killed grant (call.Map phase) told new next row =
    ap told_of row.2 ∙ (told_held call.Map row.0 ∙ map_held p t killed grant phase row.0 new row.1)
call_held p t killed grant (call.Alloc phase) told new next row =
    ap told_of row.2 ∙ (told_held call.Alloc row.0 ∙ alloc_held p t killed grant phase row.0 new row.1)
call_held p t killed grant (call.Punch phase) told new next row =
    ap told_of row.2 ∙ (told_held call.Punch row.0 ∙ punch_held p t killed grant phase row.0 new row.1)
call_held p t killed grant (call.Truncate phase) told new next row =
    ap told_of row.2 ∙ (told_held call.Truncate row.0 ∙ truncate_held p t killed grant phase row.0 new row.1)
call_held p t killed grant (call.Unmap phase) told new next row =
    ap told_of row.2 ∙ (told_held call.Unmap row.0 ∙ unmap_held p t killed grant phase row.0 new row.1)
call_held p t killed grant (call.Exit phase) told new next row =
    ap told_of row.2 ∙ (told_held call.Exit row.0 ∙ exit_held p t killed grant phase row.0 new row.1)

-- and where the reader names someone, the step that waits for it is a row
call_blocks : (p : PartsState) (t : ℕ) (killed grant : Bool) (inflight : Call) (h : ℕ) → call_blocker p killed inflight ≡ Some h
    → rows.CallRow (pool_of p) t killed grant inflight (outcome.Blocked h) (pool_of p) (Some inflight)
unfolding rows.CallRow
call_blocks p t killed grant (call.Touch phase) h e = (Blocked phase h, touch_blocks p t killed grant phase h e, refl, refl)
call_blocks p t killed grant (call.Map phase) h e = (Blocked phase h, map_blocks p t killed grant phase h e, refl, refl)
call_blocks p t killed grant (call.Alloc phase) h e = (Blocked phase h, alloc_blocks p t killed grant phase h e, refl, refl)
call_blocks p t killed grant (call.Punch phase) h e = (Blocked phase h, punch_blocks p t killed grant phase h e, refl, refl)
call_blocks p t killed grant (call.Truncate phase) h e = (Blocked phase h, truncate_blocks p t killed grant phase h e, refl, refl)
call_blocks p t killed grant (call.Unmap phase) h e = nobody h e
call_blocks p t killed grant (call.Exit phase) h e = nobody h e

-- a step is held up by whom the reader names
pub step_held : (s : CoreState) (t : ℕ) (grant : Bool) (told : Outcome) (new : State)
    → rows.StepRow (as_state s) t grant told new → told_of told ≡ task_blocker s.parts (task_state_at s.task_states t)
unfolding rows.StepRow lives_of calls_of
step_held s t grant told new row =
    by_test (is_dead (task_state_at s.task_states t).life) row
    (λ dead r. ap told_of r.0 ∙ rw dead refl)
    (λ alive rest. by_option (task_state_at s.task_states t).call rest
    (λ none r. ap told_of r.0 ∙ rw (alive, none) refl)
    (λ inflight some r. call_held s.parts t _ grant inflight told r.0 r.1 r.2 ∙ rw (alive, some) refl))

-- where the reader names someone, the task isn't dead and its call waits
blocker_parts : (p : PartsState) (dead killed : Bool) (o : Option Call) (h : ℕ)
    → (if dead then None else task_state_call_blocker p killed o) ≡ Some h
    → (dead ≡ false) × ((inflight : Call) × (o ≡ Some inflight) × (call_blocker p killed inflight ≡ Some h))
blocker_parts p true killed o h e = nobody h e
blocker_parts p false killed None h e = nobody h e
blocker_parts p false killed (Some c) h e = (refl, (c, refl, e))

-- a task whose call goes on lives on
lives_on : (lives : ℕ → Life) (t : ℕ) (inflight next : Call) → rows.lives_after lives t inflight (Some next) ≡ lives
lives_on lives t (call.Map phase) next = refl
lives_on lives t (call.Touch phase) next = refl
lives_on lives t (call.Alloc phase) next = refl
lives_on lives t (call.Punch phase) next = refl
lives_on lives t (call.Truncate phase) next = refl
lives_on lives t (call.Unmap phase) next = refl
lives_on lives t (call.Exit phase) next = refl

-- to put the call that a task has changes nothing
same_calls : (calls : ℕ → Option Call) (t : ℕ) (inflight : Call) → calls t ≡ Some inflight → put calls t (Some inflight) ≡ calls
same_calls calls t inflight e = subst (λ (o : Option Call). put calls t o ≡ calls) e (put_self calls t)

-- where the reader names someone, the event that waits for it is a row of the machine
pub step_blocks : (s : CoreState) (t : ℕ) (grant : Bool) (h : ℕ) → task_blocker s.parts (task_state_at s.task_states t) ≡ Some h
    → rows.StepRow (as_state s) t grant (outcome.Blocked h) (as_state s)
unfolding rows.StepRow lives_of calls_of
step_blocks s t grant h e =
    let b = blocker_parts s.parts (is_dead (task_state_at s.task_states t).life) (is_killed (task_state_at s.task_states t).life)
    (task_state_at s.task_states t).call h e in
    let inflight = b.1.0 in
    let calls = same_calls (calls_of s.task_states) t inflight b.1.1 in
    let lives = lives_on (lives_of s.task_states) t inflight inflight in
    at_false _ _ _ b.0 (at_some _ _ _ inflight b.1.1 (
      pool_of s.parts,
      Some inflight,
      call_blocks s.parts t _ grant inflight h b.1.2,
      λ i. record (as_state s) { life = sym lives i; calls = sym calls i },
    ))

-- the reader names whom the next step is blocked by
names : (s : CoreState) (t : ℕ) (o : Option ℕ) → task_blocker s.parts (task_state_at s.task_states t) ≡ o → WaitsFor s t o
unfolding WaitsFor Row
names s t (Some h) e = λ grant. (step_blocks s t grant h e, refl)
names s t None e =
    λ grant holder new row. nobody holder (sym e ∙ sym (step_held s t grant (outcome.Blocked holder) (as_state new) row.0))

-- so the reader tells exactly whom the task waits for
pub waits : {inside seen : CoreState} (t : ℕ) (o : Option ℕ) → inside ≡ seen → IsSound inside
    → o ≡ task_blocker inside.parts (task_state_at seen.task_states t) → WaitsFor seen t o
waits {inside} t o same sound e =
    let here = e ∙ ap (λ (s : CoreState). task_blocker inside.parts (task_state_at s.task_states t)) (sym same) in
    subst (λ (s : CoreState). WaitsFor s t o) same (names inside t o (sym here))

-- a sound core has a lock for each file
pub locks_fit : (s : CoreState) → IsSound s → IsSized s.parts
unfolding IsSound
locks_fit s h = h.1.locks
