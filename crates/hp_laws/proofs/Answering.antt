-- The word with which a load ends was read by a step of its call.
use Rattle.std.proofs.Common.{◌≡◌, ℕ, ◌+◌, ◌-◌, refl, ap, sym, ◌∙◌, subst, arith, inl, inr, ◌⊎◌}
use Rattle.std.specs.Prelude.{Bool, true, false, not, ◌&&◌, ◌==◌, nat_le, nat_lt, max, is_some, Option, Some, List, [], ◌∷◌}
use Rattle.std.proofs.lemmas.Bool.Decides.{nat_tests}
use Rattle.hp_base.specs.Numbers.{bit}
use Rattle.hp_base.specs.Indices.{missing, splits}
use Rattle.hp_base.specs.Mappings.{find, is_base, without, first_base}
use Rattle.hp_base.specs.declared.answer.Answer.{Answer}
use Rattle.hp_base.specs.declared.answer.Answer.TheVariants as answer
use Rattle.hp_base.specs.declared.event.Op.{Op}
use Rattle.hp_base.specs.declared.event.Op.TheVariants as op
use Rattle.hp_base.specs.declared.event.Event.{Event}
use Rattle.hp_base.specs.declared.event.Event.TheVariants.{Begin, Step, Kill, Resize}
use Rattle.hp_base.proofs.Puts.{put_same}
use Rattle.hp_machine.specs.State.{exceeds_quota, quota_is_used_up, Geometry, Pool, State, pool_of, slot_of, frees, is_killed}
use Rattle.hp_machine.specs.Parts.{StartRow, CommitRow, TakeRow, answer_of}
use Rattle.hp_machine.specs.TouchRows.{TouchRow}
use Rattle.hp_machine.specs.MapRows.{MapRow}
use Rattle.hp_machine.specs.AllocRows.{AllocRow}
use Rattle.hp_machine.specs.PunchRows.{PunchRow}
use Rattle.hp_machine.specs.TruncateRows.{TruncateRow}
use Rattle.hp_machine.specs.UnmapRows.{UnmapRow}
use Rattle.hp_machine.specs.ExitRows.{ExitRow}
use Rattle.hp_machine.specs.Events.{Row, CallRow, first, outcome_of, left, word_of}
use Rattle.hp_machine.specs.declared.touch.Access.{Access}
use Rattle.hp_machine.specs.declared.touch.Access.TheVariants.{Load, Store}
use Rattle.hp_machine.specs.declared.touch.TouchPhase.{TouchPhase}
use Rattle.hp_machine.specs.declared.touch.TouchPhase.TheVariants as touch
use Rattle.hp_machine.specs.declared.map.MapPhase.{MapPhase}
use Rattle.hp_machine.specs.declared.map.MapPhase.TheVariants as map
use Rattle.hp_machine.specs.declared.alloc.AllocPhase.{AllocPhase}
use Rattle.hp_machine.specs.declared.alloc.AllocPhase.TheVariants as alloc
use Rattle.hp_machine.specs.declared.punch.PunchPhase.{PunchPhase}
use Rattle.hp_machine.specs.declared.punch.PunchPhase.TheVariants as punch
use Rattle.hp_machine.specs.declared.truncate.TruncatePhase.{TruncatePhase}
use Rattle.hp_machine.specs.declared.truncate.TruncatePhase.TheVariants as truncate
use Rattle.hp_machine.specs.declared.unmap.UnmapPhase.{UnmapPhase}
use Rattle.hp_machine.specs.declared.unmap.UnmapPhase.TheVariants as unmap
use Rattle.hp_machine.specs.declared.exit.ExitPhase.{ExitPhase}
use Rattle.hp_machine.specs.declared.exit.ExitPhase.TheVariants as exit
use Rattle.hp_machine.specs.declared.outcome.Outcome.{Outcome}
use Rattle.hp_machine.specs.declared.outcome.Outcome.TheVariants as outcome
use Rattle.hp_machine.specs.declared.call.Call.{Call}
use Rattle.hp_machine.specs.declared.call.Call.TheVariants as call
use Rattle.hp_machine.specs.declared.call.Turn.{Turn}
use Rattle.hp_machine.specs.declared.call.Turn.TheVariants.{Moved, Blocked, Ended}
use Rattle.hp_laws.specs.Bounds.{is_begun}
use Rattle.hp_laws.specs.Histories.{Moment, History, in_order}
use Rattle.hp_laws.specs.Words.{Read, ReadTheLastWord}
use Rattle.hp_laws.proofs.Deciding.{some_same}
use Rattle.hp_laws.proofs.Shared.{by_test, by_option}
use Rattle.hp_laws.proofs.Runs.{Always}
use Rattle.hp_laws.proofs.Reading.{begin_cases}
use Rattle.hp_laws.proofs.Serving.{TurnWell, at_leaf, own_or_same}
use Rattle.hp_laws.proofs.LastWords.{moment}
use Rattle.hp_laws.proofs.Histories.{begun_more, history_well, last_words}

-- the call carries that word as its answer
abbrev Carries : Option Call → (word : ℕ) → Type 0
Carries (Some (call.Touch (touch.Abort p))) w = p.answer ≡ answer.Word w
Carries (Some (call.Touch (touch.Restore p))) w = p.answer ≡ answer.Word w
Carries (Some (call.Touch (touch.Leave p))) w = p.answer ≡ answer.Word w
Carries (Some (call.Map (map.Abort p))) w = p.answer ≡ answer.Word w
Carries (Some (call.Map (map.Leave p))) w = p.answer ≡ answer.Word w
Carries (Some (call.Alloc (alloc.Abort p))) w = p.answer ≡ answer.Word w
Carries (Some (call.Alloc (alloc.Restore p))) w = p.answer ≡ answer.Word w
Carries (Some (call.Alloc (alloc.Unslot p))) w = p.answer ≡ Some (answer.Word w)
Carries (Some (call.Alloc (alloc.Leave p))) w = p.answer ≡ answer.Word w
Carries other w = ⊥

-- where a turn ends with the word, or leaves a call that carries it, that is so
abbrev Yields : {P : Type 0} (call : P → Call) (word : ℕ) (Q : Type 0) → Turn P → Type 0
Yields {P} call w Q turn = TurnWell P (λ q. Carries (Some (call q)) w → Q) (λ a. a ≡ answer.Word w → Q) turn

-- so at a leaf of a row, where the turn is known
leaf : {P : Type 0} (call : P → Call) (w : ℕ) (Q : Type 0) (wanted turn : Turn P) → turn ≡ wanted → Yields call w Q wanted
    → Yields call w Q turn
leaf {P} call w Q wanted turn e h = at_leaf (λ q. Carries (Some (call q)) w → Q) (λ a. a ≡ answer.Word w → Q) wanted turn e h

-- the start of a call on a file tells no word
start_words : {P : Type 0} (call : P → Call) (w : ℕ) (Q : Type 0) (s : State) (t : ℕ) (killed : Bool) (f : ℕ) (bad : Bool)
    (at_kill : Answer) (here next : P) (turn : Turn P) (new : Pool)
    → StartRow (pool_of s) t killed f bad at_kill here next turn new → (at_kill ≡ answer.Word w → Q) → (Carries (Some (call here)) w → Q)
    → (Carries (Some (call next)) w → Q) → Yields call w Q turn
start_words call w Q s t killed f bad at_kill here next turn new row a b c =
    by_test (nat_le s.geometry.files f) row
    (λ _ r. leaf call w Q _ turn r.0 (λ e. absurd (cc)))
    (λ _ r. by_test bad r
    (λ _ r. leaf call w Q _ turn r.0 (λ e. absurd (cc)))
    (λ _ r. by_test killed r
    (λ _ r. leaf call w Q _ turn r.0 a)
    (λ _ r. by_option (s.locks f) r
    (λ _ r. leaf call w Q _ turn r.0 c)
    (λ u _ r. leaf call w Q (Blocked here u) turn r.0 b))))

-- a commit tells none
commit_words : {P : Type 0} (call : P → Call) (w : ℕ) (Q : Type 0) (s : State) (f from to m : ℕ) (settle next : P) (turn : Turn P)
    (new : Pool)
    → CommitRow (pool_of s) f (record { from = from; to = to; missing = m }) settle next turn new → (Carries (Some (call settle)) w → Q)
    → (Carries (Some (call next)) w → Q) → Yields call w Q turn
commit_words call w Q s f from to m settle next turn new row a b =
    by_test (nat_lt (missing (s.reserved f) from to) m) row (λ _ r. leaf call w Q _ turn r.0 a) (λ _ r. leaf call w Q _ turn r.0 b)

-- nor does a take
take_words : {P : Type 0} (call : P → Call) (w : ℕ) (Q : Type 0) (s : State) (m : ℕ) (refused : Answer → P) (taken : ℕ → P)
    (turn : Turn P) (new : Pool)
    → TakeRow (pool_of s) m refused taken turn new → (Carries (Some (call (refused answer.NoQuota))) w → Q)
    → (Carries (Some (call (refused answer.NoFrame))) w → Q)
    → ((x : ℕ) → Carries (Some (call (taken x))) w → Q) → Yields call w Q turn
take_words call w Q s m refused taken turn new row over a b =
    by_test (m == 0) row
    (λ _ r. leaf call w Q (Moved (taken r.0)) turn r.3.0 (b r.0))
    (λ _ r. by_test (quota_is_used_up (pool_of s)) r
    (λ _ r. leaf call w Q _ turn r.0 over)
    (λ _ r. by_test (frees (pool_of s) == s.resv) r
    (λ _ r. leaf call w Q _ turn r.0 a)
    (λ _ r. leaf call w Q (Moved (taken r.0)) turn r.2.0 (b r.0))))

-- a map that tells a word carried it
map_words : (s : State) (t : ℕ) (killed grant : Bool) (phase : MapPhase) (turn : Turn MapPhase) (new : Pool) (w : ℕ)
    → MapRow (pool_of s) t killed grant phase turn new → Yields call.Map w (Carries (Some (call.Map phase)) w) turn
map_words s t killed grant (map.Start p) turn new w row =
    start_words call.Map w _ s t killed p.map.file _ answer.Killed (map.Start p) _ turn new row (λ e. absurd (cc)) (λ e. absurd e)
    (λ e. absurd e)
map_words s t killed grant (map.Room p) turn new w (found, room, row) = by_option found row
    (λ _ r. leaf call.Map w _ _ turn r.0 (λ e. absurd (cc)))
    (λ b _ r. by_test grant r
    (λ _ r. by_test p.map.reserve r (λ _ r. leaf call.Map w _ _ turn r.0 (λ e. absurd e))
    (λ _ r. leaf call.Map w _ _ turn r.0 (λ e. absurd e)))
    (λ _ r. leaf call.Map w _ _ turn r.0 (λ e. absurd (cc))))
map_words s t killed grant (map.Missing p) turn new w row = by_test ((s.spare p.map.file == s.pending p.map.file) && not grant) row
    (λ _ r. leaf call.Map w _ _ turn r.0 (λ e. absurd (cc)))
    (λ _ r. leaf call.Map w _ _ turn r.0 (λ e. absurd e))
map_words s t killed grant (map.Changed p) turn new w row = by_test killed row
    (λ _ r. leaf call.Map w _ _ turn r.0 (λ e. absurd (cc)))
    (λ _ r. by_test (exceeds_quota (pool_of s) p.pending.missing) r (λ _ r. leaf call.Map w _ _ turn r.0 (λ e. absurd (cc)))
    (λ _ r. by_test (nat_lt (frees (pool_of s) - s.resv) p.pending.missing) r (λ _ r. leaf call.Map w _ _ turn r.0 (λ e. absurd (cc)))
    (λ _ r. leaf call.Map w _ _ turn r.0 (λ e. absurd e))))
map_words s t killed grant (map.Abort p) turn new w row = leaf call.Map w _ _ turn row.0 (λ e. e)
map_words s t killed grant (map.Accounted p) turn new w row =
    commit_words call.Map w _ s p.map.file p.pending.from p.pending.to p.pending.missing _ _ turn new row (λ e. absurd e) (λ e. absurd e)
map_words s t killed grant (map.Settle p) turn new w (low, used, row) = leaf call.Map w _ _ turn row.0 (λ e. absurd e)
map_words s t killed grant (map.Enter p) turn new w row = leaf call.Map w _ _ turn row.0 (λ e. absurd (cc))
map_words s t killed grant (map.Leave p) turn new w row = leaf call.Map w _ _ turn row.0 (λ e. e)

-- so did an allocation
alloc_words : (s : State) (t : ℕ) (killed grant : Bool) (phase : AllocPhase) (turn : Turn AllocPhase) (new : Pool) (w : ℕ)
    → AllocRow (pool_of s) t killed grant phase turn new → Yields call.Alloc w (Carries (Some (call.Alloc phase)) w) turn
alloc_words s t killed grant (alloc.Start p) turn new w row =
    start_words call.Alloc w _ s t killed p.allocation.file _ answer.Interrupted (alloc.Start p) _ turn new row (λ e. absurd (cc))
    (λ e. absurd e) (λ e. absurd e)
alloc_words s t killed grant (alloc.Head p) turn new w row =
    by_test killed row (λ _ r. leaf call.Alloc w _ _ turn r.0 (λ e. absurd (cc))) (λ _ r. leaf call.Alloc w _ _ turn r.0 (λ e. absurd e))
alloc_words s t killed grant (alloc.Want p) turn new w row = by_test killed row
    (λ _ r. leaf call.Alloc w _ _ turn r.0 (λ e. absurd (cc)))
    (λ _ r. by_option (s.slots (slot_of s.geometry p.allocation.file p.index)) r (λ _ r. leaf call.Alloc w _ _ turn r.0 (λ e. absurd e))
    (λ u _ r. leaf call.Alloc w _ (Blocked (alloc.Want p) u) turn r.0 (λ e. absurd e)))
alloc_words s t killed grant (alloc.Locked p) turn new w row = by_test (is_some (s.pages p.allocation.file p.index)) row
    (λ _ r. leaf call.Alloc w _ _ turn r.0 (λ e. absurd (cc)))
    (λ _ r. leaf call.Alloc w _ _ turn r.0 (λ e. absurd e))
alloc_words s t killed grant (alloc.Missing p) turn new w row =
    by_test ((s.spare p.allocation.file == s.pending p.allocation.file) && not grant) row
    (λ _ r. leaf call.Alloc w _ _ turn r.0 (λ e. absurd (cc)))
    (λ _ r. leaf call.Alloc w _ _ turn r.0 (λ e. absurd e))
alloc_words s t killed grant (alloc.Changed p) turn new w row = by_test killed row
    (λ _ r. leaf call.Alloc w _ _ turn r.0 (λ e. absurd (cc)))
    (λ _ r. take_words call.Alloc w _ s p.pending.missing
    (λ a. alloc.Abort (record { allocation = p.allocation; index = p.index; pending = p.pending; answer = a }))
    (λ x. alloc.Taken (record { allocation = p.allocation; index = p.index; pending = p.pending; held = x })) turn new r
    (λ e. absurd (cc)) (λ e. absurd (cc)) (λ x e. absurd e))
alloc_words s t killed grant (alloc.Abort p) turn new w row = leaf call.Alloc w _ _ turn row.0 (λ e. some_same e)
alloc_words s t killed grant (alloc.Taken p) turn new w row =
    commit_words call.Alloc w _ s p.allocation.file p.pending.from p.pending.to p.pending.missing _ _ turn new row (λ e. absurd e)
    (λ e. absurd e)
alloc_words s t killed grant (alloc.Settle p) turn new w (low, used, row) = leaf call.Alloc w _ _ turn row.0 (λ e. absurd e)
alloc_words s t killed grant (alloc.Committed p) turn new w row =
    by_test grant row (λ _ r. leaf call.Alloc w _ _ turn r.0 (λ e. absurd (cc))) (λ _ r. leaf call.Alloc w _ _ turn r.0 (λ e. absurd (cc)))
alloc_words s t killed grant (alloc.Restore p) turn new w row = leaf call.Alloc w _ _ turn row.0 (λ e. some_same e)
alloc_words s t killed grant (alloc.Unslot p) turn new w row = by_option p.answer row
    (λ _ r. by_test (nat_lt (p.index + 1) (p.allocation.from + p.allocation.len)) r
    (λ _ r. leaf call.Alloc w _ _ turn r.0 (λ e. absurd e))
    (λ _ r. by_test p.allocation.keep r (λ _ r. leaf call.Alloc w _ _ turn r.0 (λ e. absurd (cc)))
    (λ _ r. leaf call.Alloc w _ _ turn r.0 (λ e. absurd e))))
    (λ a is r. leaf call.Alloc w _ _ turn r.0 (λ e. is ∙ ap (λ (b : Answer). Some b) e))
alloc_words s t killed grant (alloc.Extend p) turn new w row = leaf call.Alloc w _ _ turn row.0 (λ e. absurd (cc))
alloc_words s t killed grant (alloc.Leave p) turn new w row = leaf call.Alloc w _ _ turn row.0 (λ e. e)

-- a punch never tells one
punch_words : (s : State) (t : ℕ) (killed grant : Bool) (phase : PunchPhase) (turn : Turn PunchPhase) (new : Pool) (w : ℕ)
    → PunchRow (pool_of s) t killed grant phase turn new → Yields call.Punch w ⊥ turn
punch_words s t killed grant (punch.Start p) turn new w row =
    start_words call.Punch w ⊥ s t killed p.hole.file _ answer.Killed (punch.Start p) _ turn new row (λ e. absurd (cc)) (λ e. e) (λ e. e)
punch_words s t killed grant (punch.Want p) turn new w row =
    by_option (s.slots (slot_of s.geometry p.hole.file p.index)) row (λ _ r. leaf call.Punch w ⊥ _ turn r.0 (λ e. e))
    (λ u _ r. leaf call.Punch w ⊥ (Blocked (punch.Want p) u) turn r.0 (λ e. e))
punch_words s t killed grant (punch.Locked p) turn new w row =
    by_test (is_some (s.pages p.hole.file p.index)) row (λ _ r. leaf call.Punch w ⊥ _ turn r.0 (λ e. e))
    (λ _ r. leaf call.Punch w ⊥ _ turn r.0 (λ e. e))
punch_words s t killed grant (punch.Unmap p) turn new w row =
    by_test (nat_lt p.task s.geometry.tasks) row (λ _ r. leaf call.Punch w ⊥ _ turn r.0 (λ e. e))
    (λ _ r. leaf call.Punch w ⊥ _ turn r.0 (λ e. e))
punch_words s t killed grant (punch.Evict p) turn new w (x, page, row) = leaf call.Punch w ⊥ _ turn row.0 (λ e. e)
punch_words s t killed grant (punch.Delete p) turn new w row =
    by_test (splits (s.reserved p.hole.file) p.index && nat_le (s.spare p.hole.file) (s.pending p.hole.file) && not grant) row
    (λ _ r. leaf call.Punch w ⊥ _ turn r.0 (λ e. e))
    (λ _ r. leaf call.Punch w ⊥ _ turn r.0 (λ e. e))
punch_words s t killed grant (punch.Free p) turn new w row =
    by_test p.denied row (λ _ r. leaf call.Punch w ⊥ _ turn r.0 (λ e. e)) (λ _ r. leaf call.Punch w ⊥ _ turn r.1.0 (λ e. e))
punch_words s t killed grant (punch.Unslot p) turn new w row =
    by_test (nat_lt (p.index + 1) (p.hole.from + p.hole.len)) row (λ _ r. leaf call.Punch w ⊥ _ turn r.0 (λ e. e))
    (λ _ r. leaf call.Punch w ⊥ _ turn r.0 (λ e. e))
punch_words s t killed grant (punch.Leave p) turn new w row = leaf call.Punch w ⊥ _ turn row.0 (λ e. absurd (cc))

-- nor does a truncation
truncate_words : (s : State) (t : ℕ) (killed grant : Bool) (phase : TruncatePhase) (turn : Turn TruncatePhase) (new : Pool) (w : ℕ)
    → TruncateRow (pool_of s) t killed grant phase turn new → Yields call.Truncate w ⊥ turn
truncate_words s t killed grant (truncate.Start p) turn new w row =
    start_words call.Truncate w ⊥ s t killed p.truncation.file _ answer.Killed (truncate.Start p) _ turn new row (λ e. absurd (cc)) (λ e. e)
    (λ e. e)
truncate_words s t killed grant (truncate.Size p) turn new w (end, is_end, row) =
    by_test (nat_lt p.truncation.new (max (s.size p.truncation.file) end)) row (λ _ r. leaf call.Truncate w ⊥ _ turn r.0 (λ e. e))
    (λ _ r. leaf call.Truncate w ⊥ _ turn r.0 (λ e. e))
truncate_words s t killed grant (truncate.Want p) turn new w row = by_option (s.slots (slot_of s.geometry p.truncation.file p.index)) row
    (λ _ r. leaf call.Truncate w ⊥ _ turn r.0 (λ e. e))
    (λ u _ r. leaf call.Truncate w ⊥ (Blocked (truncate.Want p) u) turn r.0 (λ e. e))
truncate_words s t killed grant (truncate.Locked p) turn new w row =
    by_test (is_some (s.pages p.truncation.file p.index)) row (λ _ r. leaf call.Truncate w ⊥ _ turn r.0 (λ e. e))
    (λ _ r. leaf call.Truncate w ⊥ _ turn r.0 (λ e. e))
truncate_words s t killed grant (truncate.Unmap p) turn new w row =
    by_test (nat_lt p.task s.geometry.tasks) row (λ _ r. leaf call.Truncate w ⊥ _ turn r.0 (λ e. e))
    (λ _ r. leaf call.Truncate w ⊥ _ turn r.0 (λ e. e))
truncate_words s t killed grant (truncate.Evict p) turn new w (x, page, row) = leaf call.Truncate w ⊥ _ turn row.0 (λ e. e)
truncate_words s t killed grant (truncate.Free p) turn new w row = leaf call.Truncate w ⊥ _ turn row.0 (λ e. e)
truncate_words s t killed grant (truncate.Unslot p) turn new w row =
    by_test (nat_lt p.truncation.new p.index) row (λ _ r. leaf call.Truncate w ⊥ _ turn r.0 (λ e. e))
    (λ _ r. leaf call.Truncate w ⊥ _ turn r.0 (λ e. e))
truncate_words s t killed grant (truncate.Tail p) turn new w row = leaf call.Truncate w ⊥ _ turn row.0 (λ e. e)
truncate_words s t killed grant (truncate.Settle p) turn new w (low, used, row) = leaf call.Truncate w ⊥ _ turn row.0 (λ e. e)
truncate_words s t killed grant (truncate.Leave p) turn new w row = leaf call.Truncate w ⊥ _ turn row.0 (λ e. absurd (cc))

-- nor an unmap
unmap_words : (s : State) (t : ℕ) (killed grant : Bool) (phase : UnmapPhase) (turn : Turn UnmapPhase) (new : Pool) (w : ℕ)
    → UnmapRow (pool_of s) t killed grant phase turn new → Yields call.Unmap w ⊥ turn
unmap_words s t killed grant (unmap.Start p) turn new w row =
    by_test (is_base (s.mappings t) p.base) row (λ _ r. leaf call.Unmap w ⊥ _ turn r.0 (λ e. e))
    (λ _ r. leaf call.Unmap w ⊥ _ turn r.0 (λ e. absurd (cc)))
unmap_words s t killed grant (unmap.Clear p) turn new w row = leaf call.Unmap w ⊥ _ turn row.0 (λ e. e)
unmap_words s t killed grant (unmap.Drop p) turn new w row = leaf call.Unmap w ⊥ _ turn row.0 (λ e. absurd (cc))

-- nor an exit
exit_words : (s : State) (t : ℕ) (killed grant : Bool) (phase : ExitPhase) (turn : Turn ExitPhase) (new : Pool) (w : ℕ)
    → ExitRow (pool_of s) t killed grant phase turn new → Yields call.Exit w ⊥ turn
exit_words s t killed grant exit.Start turn new w row =
    by_option (first_base (s.mappings t)) row (λ _ r. leaf call.Exit w ⊥ _ turn r.0 (λ e. e))
    (λ b _ r. leaf call.Exit w ⊥ _ turn r.0 (λ e. e))
exit_words s t killed grant (exit.Clear p) turn new w row = leaf call.Exit w ⊥ _ turn row.0 (λ e. e)
exit_words s t killed grant (exit.Drop p) turn new w row =
    by_option (first_base (without (s.mappings t) p.base)) row (λ _ r. leaf call.Exit w ⊥ _ turn r.0 (λ e. e))
    (λ b _ r. leaf call.Exit w ⊥ _ turn r.0 (λ e. e))
exit_words s t killed grant exit.Leave turn new w row = leaf call.Exit w ⊥ _ turn row.0 (λ e. absurd (cc))

-- from where a touch has the word that its step tells: it reads it just then, or carried it
abbrev Source : State → (t w : ℕ) → TouchPhase → Turn TouchPhase → Type 0
Source s t w (touch.Look p) turn =
    (place : ℕ × ℕ) × (p.access ≡ Load) × (find (s.mappings t) p.vpn ≡ Some place) × (turn ≡ Ended (answer.Word w))
Source s t w (touch.Found p) turn =
    (p.touch.access ≡ Load) × (turn ≡ Moved (touch.Leave (record { touch = p.touch; answer = answer.Word w })))
Source s t w phase turn = Carries (Some (call.Touch phase)) w

-- who is answered with a word loads
is_load : (a : Access) (v w : ℕ) → answer_of a v ≡ answer.Word w → a ≡ Load
is_load Load v w e = refl
is_load (Store new) v w e = absurd (cc)

-- a touch that tells a word reads it just then, or carried it
touch_words : (s : State) (t : ℕ) (killed grant : Bool) (phase : TouchPhase) (turn : Turn TouchPhase) (new : Pool) (w : ℕ)
    → TouchRow (pool_of s) t killed grant phase turn new → Yields call.Touch w (Source s t w phase turn) turn
touch_words s t killed grant (touch.Look p) turn new w row = by_option (find (s.mappings t) p.vpn) row
    (λ _ r. leaf call.Touch w _ _ turn r.0 (λ e. absurd (cc)))
    (λ place there r. by_option (s.entries t p.vpn) r
    (λ _ r. leaf call.Touch w _ _ turn r.0 (λ e. absurd e))
    (λ x _ r. leaf call.Touch w _ _ turn r.2.0 (λ e. (place, is_load p.access r.0 w e, there, r.2.0 ∙ ap (λ (a : Answer). Ended a) e))))
touch_words s t killed grant (touch.Want p) turn new w row = by_test killed row
    (λ _ r. leaf call.Touch w _ _ turn r.0 (λ e. absurd (cc)))
    (λ _ r. by_option (s.slots (slot_of s.geometry p.touch.file p.touch.index)) r (λ _ r. leaf call.Touch w _ _ turn r.0 (λ e. absurd e))
    (λ u _ r. leaf call.Touch w _ (Blocked (touch.Want p) u) turn r.0 (λ e. absurd e)))
touch_words s t killed grant (touch.Locked p) turn new w row = by_test (nat_le (s.size p.touch.file) p.touch.index) row
    (λ _ r. leaf call.Touch w _ _ turn r.0 (λ e. absurd (cc)))
    (λ _ r. by_test (is_some (s.pages p.touch.file p.touch.index)) r (λ _ r. leaf call.Touch w _ _ turn r.0 (λ e. absurd e))
    (λ _ r. leaf call.Touch w _ _ turn r.0 (λ e. absurd e)))
touch_words s t killed grant (touch.Missing p) turn new w row = by_test ((s.spare p.touch.file == s.pending p.touch.file) && not grant) row
    (λ _ r. leaf call.Touch w _ _ turn r.0 (λ e. absurd (cc)))
    (λ _ r. leaf call.Touch w _ _ turn r.0 (λ e. absurd e))
touch_words s t killed grant (touch.Changed p) turn new w row = by_test killed row
    (λ _ r. leaf call.Touch w _ _ turn r.0 (λ e. absurd (cc)))
    (λ _ r. take_words call.Touch w _ s p.pending.missing
    (λ a. touch.Abort (record { touch = p.touch; pending = p.pending; answer = a }))
    (λ x. touch.Taken (record { touch = p.touch; pending = p.pending; held = x })) turn new r
    (λ e. absurd (cc)) (λ e. absurd (cc)) (λ x e. absurd e))
touch_words s t killed grant (touch.Abort p) turn new w row = leaf call.Touch w _ _ turn row.0 (λ e. e)
touch_words s t killed grant (touch.Taken p) turn new w row =
    commit_words call.Touch w _ s p.touch.file p.pending.from p.pending.to p.pending.missing _ _ turn new row (λ e. absurd e)
    (λ e. absurd e)
touch_words s t killed grant (touch.Settle p) turn new w (low, used, row) = leaf call.Touch w _ _ turn row.0 (λ e. absurd e)
touch_words s t killed grant (touch.Committed p) turn new w row = by_test (nat_le (s.size p.touch.file) p.touch.index) row
    (λ _ r. leaf call.Touch w _ _ turn r.0 (λ e. absurd (cc)))
    (λ _ r. by_test grant r (λ _ r. leaf call.Touch w _ _ turn r.0 (λ e. absurd e))
    (λ _ r. leaf call.Touch w _ _ turn r.0 (λ e. absurd (cc))))
touch_words s t killed grant (touch.Restore p) turn new w row = leaf call.Touch w _ _ turn row.0 (λ e. e)
touch_words s t killed grant (touch.Found p) turn new w row = by_test (nat_le (s.size p.touch.file) p.touch.index) row
    (λ _ r. leaf call.Touch w _ _ turn r.0 (λ e. absurd (cc)))
    (λ _ r. by_test grant r
    (λ _ r. leaf call.Touch w _ _ turn r.4.0
    (λ e. (is_load p.touch.access r.1 w e, r.4.0 ∙ ap (λ (a : Answer). Moved (touch.Leave (record { touch = p.touch; answer = a }))) e)))
    (λ _ r. leaf call.Touch w _ _ turn r.0 (λ e. absurd (cc))))
touch_words s t killed grant (touch.Leave p) turn new w row = leaf call.Touch w _ _ turn row.0 (λ e. e)

-- a step tells a word: it ends with it, or leaves a call that carries it
abbrev Tells : Outcome → Option Call → (word : ℕ) → Type 0
Tells o next w = (o ≡ outcome.Ended (answer.Word w)) ⊎ Carries next w

-- what a turn tells is what it yields
yielded : {P : Type 0} (call : P → Call) (w : ℕ) (Q : Type 0) (turn : Turn P) → Yields call w Q turn → Tells (outcome_of call turn)
    (left call turn) w → Q
yielded call w Q (Moved p) h tells = elim tells [ inl e ↦ absurd (moved_ended e) | inr c ↦ h c ]
  where
    moved_ended : outcome.Moved (word_of (call p)) ≡ outcome.Ended (answer.Word w) → ⊥
    moved_ended z = cc
yielded call w Q (Blocked p u) h tells = elim tells [ inl e ↦ absurd (blocked_ended e) | inr c ↦ h c ]
  where
    blocked_ended : outcome.Blocked u ≡ outcome.Ended (answer.Word w) → ⊥
    blocked_ended z = cc
yielded call w Q (Ended a) h tells = elim tells [ inl e ↦ h (same e) | inr c ↦ absurd c ]
  where
    same : {a b : Answer} → outcome.Ended a ≡ outcome.Ended b → a ≡ b
    same z = cc

-- the same of an outcome and the call that is left
by_turn : {P : Type 0} (call : P → Call) (w : ℕ) (Q : Type 0) (turn : Turn P) (o : Outcome) (next : Option Call) → Yields call w Q turn
    → o ≡ outcome_of call turn → next ≡ left call turn → Tells o next w → Q
by_turn call w Q turn o next h tells leaves z =
    yielded call w Q turn h (subst
    (λ (m : Option Call). Tells (outcome_of call turn) m w) leaves (subst (λ (m : Outcome). Tells m next w) tells z))

-- at this step of the task the word is read
abbrev ReadsNow : State → (t : ℕ) → (grant : Bool) → Outcome → State → (word : ℕ) → Type 0
ReadsNow s t grant o n w = (f i : ℕ) × Read f i (moment s (Step t grant) o n) w

-- the step of a touch that has the word, as one that reads
of_touch : (s : State) (t : ℕ) (grant : Bool) (phase : TouchPhase) (turn : Turn TouchPhase) (o : Outcome) (n : State) (w : ℕ)
    → s.calls t ≡ Some (call.Touch phase) → o ≡ outcome_of call.Touch turn → n.calls t ≡ left call.Touch turn
    → Source s t w phase turn → Carries (Some (call.Touch phase)) w ⊎ ReadsNow s t grant o n w
of_touch s t grant (touch.Look p) turn o n w there tells leaves (place, loads, found, ends) =
    inr (place.0, place.1, inl (t, grant, p, refl, there, loads, found, tells ∙ ap (outcome_of call.Touch) ends))
of_touch s t grant (touch.Found p) turn o n w there tells leaves (loads, moves) =
    inr (p.touch.file, p.touch.index, inr (t, grant, p, refl, there, loads, refl, refl, leaves ∙ ap (left call.Touch) moves))
of_touch s t grant phase turn o n w there tells leaves source = inl source

-- a step that tells a word reads it, or its call carried it
told_by_call : (s : State) (t : ℕ) (grant : Bool) (c : Call) (o : Outcome) (pool : Pool) (next : Option Call) (n : State) (w : ℕ)
    → s.calls t ≡ Some c → CallRow (pool_of s) t (is_killed (s.life t)) grant c o pool next → n.calls t ≡ next
    → Tells o next w → Carries (Some c) w ⊎ ReadsNow s t grant o n w
unfolding CallRow
told_by_call s t grant (call.Touch p) o pool next n w there (turn, row, tells, leaves) is z =
    of_touch s t grant p turn o n w there tells (is ∙ leaves)
    (by_turn call.Touch w (Source s t w p turn) turn o next (touch_words s t (is_killed (s.life t)) grant p turn pool w row) tells leaves z)
told_by_call s t grant (call.Map p) o pool next n w there (turn, row, tells, leaves) is z =
    inl (by_turn call.Map w _ turn o next (map_words s t (is_killed (s.life t)) grant p turn pool w row) tells leaves z)
told_by_call s t grant (call.Alloc p) o pool next n w there (turn, row, tells, leaves) is z =
    inl (by_turn call.Alloc w _ turn o next (alloc_words s t (is_killed (s.life t)) grant p turn pool w row) tells leaves z)
told_by_call s t grant (call.Punch p) o pool next n w there (turn, row, tells, leaves) is z =
    absurd (by_turn call.Punch w ⊥ turn o next (punch_words s t (is_killed (s.life t)) grant p turn pool w row) tells leaves z)
told_by_call s t grant (call.Truncate p) o pool next n w there (turn, row, tells, leaves) is z =
    absurd (by_turn call.Truncate w ⊥ turn o next (truncate_words s t (is_killed (s.life t)) grant p turn pool w row) tells leaves z)
told_by_call s t grant (call.Unmap p) o pool next n w there (turn, row, tells, leaves) is z =
    absurd (by_turn call.Unmap w ⊥ turn o next (unmap_words s t (is_killed (s.life t)) grant p turn pool w row) tells leaves z)
told_by_call s t grant (call.Exit p) o pool next n w there (turn, row, tells, leaves) is z =
    absurd (by_turn call.Exit w ⊥ turn o next (exit_words s t (is_killed (s.life t)) grant p turn pool w row) tells leaves z)

-- where a moment's event tells a word of task t: its call carried it before, or the moment read it
abbrev From : (t w : ℕ) → State → Event → Outcome → State → Type 0
From t w s event o n =
    (is_begun t event o ≡ 0)
    × (Carries (s.calls t) w ⊎ ((grant : Bool) × (event ≡ Step t grant) × ((f i : ℕ) × Read f i (moment s event o n) w)))

-- a call that has just begun carries no word
first_carries : (p : Op) (w : ℕ) → Carries (Some (first p)) w → ⊥
first_carries (op.Map f from len) w e = e
first_carries (op.MapNoReserve f from len) w e = e
first_carries (op.Unmap base) w e = e
first_carries (op.Load v) w e = e
first_carries (op.Store v x) w e = e
first_carries (op.Alloc f from len keep) w e = e
first_carries (op.Punch f from len) w e = e
first_carries (op.Truncate f new) w e = e
first_carries op.Exit w e = e

-- an event begins a call of the task, or it doesn't
begun_or_not : (t : ℕ) (event : Event) (o : Outcome) → (is_begun t event o ≡ 0) ⊎ ((p : Op) × (event ≡ Begin t p) × (o ≡ outcome.Begun))
begun_or_not t (Begin u p) outcome.Begun = by_task (u == t) refl
  where
    same : (u t : ℕ) → (u == t) ≡ true → u ≡ t
    same u t e = grind (arith, nat_tests)

    by_task : (b : Bool) → (u == t) ≡ b → (is_begun t (Begin u p) outcome.Begun ≡ 0)
        ⊎ ((q : Op) × (Begin u p ≡ Begin t q) × (outcome.Begun ≡ outcome.Begun))
    by_task true e = inr (p, ap (λ (m : ℕ). Begin m p) (same u t e), refl)
    by_task false e = inl (ap bit e)
begun_or_not t (Begin u p) (outcome.Moved x) = inl refl
begun_or_not t (Begin u p) (outcome.Blocked x) = inl refl
begun_or_not t (Begin u p) (outcome.Ended x) = inl refl
begun_or_not t (Begin u p) outcome.Marked = inl refl
begun_or_not t (Begin u p) (outcome.Resized x) = inl refl
begun_or_not t (Begin u p) (outcome.Refused x) = inl refl
begun_or_not t (Step u grant) o = inl refl
begun_or_not t (Kill u) o = inl refl
begun_or_not t (Resize size) o = inl refl

-- a word that task t's call carries after an event, or with which it ends, was carried before or read just then
told_by_event : (s : State) (t w : ℕ) (event : Event) (o : Outcome) (n : State) → Always s → Row s event o n
    → ((grant : Bool) × (event ≡ Step t grant) × (o ≡ outcome.Ended (answer.Word w))) ⊎ Carries (n.calls t) w → From t w s event o n
told_by_event s t w event o n h row tells = elim (begun_or_not t event o) [
  | inl quiet ↦ own_or_same s t event o n (From t w s event o n) h quiet row
      (λ calls mappings lives no_end. (
        quiet,
        inl (elim tells [
          | inl e ↦ absurd (no_end e.0 (answer.Word w) e.1 e.2)
          | inr c ↦ subst (λ (m : Option Call). Carries m w) calls c
        ]),
      ))
      (λ grant c pool next is e r d. let after : n.calls t ≡ next = ap (λ (m : State). m.calls t) d ∙ put_same s.calls t next in
      let from = told_by_call s t grant c o pool next n w e r after (elim tells [
        | inl z ↦ inl z.2
        | inr z ↦ inr (subst
            (λ (m : Option Call). Carries m w) after z)
      ]) in (
        quiet,
        elim from [
          | inl z ↦ inl (subst (λ (m : Option Call). Carries m w) (sym e) z)
          | inr z ↦ inr (grant, is, subst (λ (m : Event). (f i : ℕ) × Read f i (moment s m o n) w) (sym is) z)
        ],
      ))
  | inr begun ↦ absurd (elim tells [
    | inl e ↦ not_step (sym begun.1 ∙ e.1)
    | inr c ↦ begin_cases s t begun.0 o n ⊥ (subst (λ (m : Event). Row s m o n) begun.1 row)
        (λ why e d. not_refused (sym begun.2 ∙ e))
        (λ lives none may e d. first_carries begun.0 w (subst (λ (m : Option Call). Carries m w)
        (ap (λ (m : State). m.calls t) d ∙ put_same s.calls t (Some (first begun.0))) c))
  ])
]
  where
    not_step : {p : Op} {u : ℕ} {grant : Bool} → Begin t p ≡ Step u grant → ⊥
    not_step z = cc

    not_refused : {why : _} → outcome.Begun ≡ outcome.Refused why → ⊥
    not_refused z = cc

-- what was read lasts while the task begins no call
one_later : (t w : ℕ) (m : Moment) (ms : List Moment) → is_begun t m.event m.outcome ≡ 0 → ReadTheLastWord t w ms
    → ReadTheLastWord t w (m ∷ ms)
one_later t w m ms quiet k = record {
  later = m ∷ k.later;
  read = k.read;
  earlier = k.earlier;
  parts = ap (λ (l : List Moment). m ∷ l) k.parts;
  grant = k.grant;
  own_step = k.own_step;
  same_call = (let a = begun_more t (in_order k.later) m.event m.outcome in let b = k.same_call in omega arith);
  file = k.file;
  index = k.index;
  told = k.told;
  last = k.last;
}

-- the word of a moment whose event tells one was the last of its page where the call read it
from_history : (g : Geometry) (frames : ℕ) (m : Moment) (ms : List Moment) (t w : ℕ) → History g frames (m ∷ ms) m.after
    → From t w m.before m.event m.outcome m.after
    → (Carries (m.before.calls t) w → ReadTheLastWord t w ms) → ReadTheLastWord t w (m ∷ ms)
from_history g frames m ms t w h from carried = elim from.1 [
  | inl c ↦ one_later t w m ms from.0 (carried c)
  | inr r ↦ record {
    later = [];
    read = m;
    earlier = ms;
    parts = refl;
    grant = r.0;
    own_step = r.1;
    same_call = refl;
    file = r.2.0;
    index = r.2.1;
    told = r.2.2;
    last = (last_words g frames ms m r.2.0 r.2.1 w h r.2.2).0;
  }
]

-- a word that a call carries was read by a step of it
carried_word : (g : Geometry) (frames : ℕ) (ms : List Moment) (s : State) (t w : ℕ) → History g frames ms s → Carries (s.calls t) w
    → ReadTheLastWord t w ms
carried_word g frames [] s t w h c = absurd (subst (λ (m : State). Carries (m.calls t) w) h c)
carried_word g frames (m ∷ ms) s t w h c =
    let now : History g frames (m ∷ ms) m.after = (refl, h.1, h.2) in
    let before = history_well g frames ms m.before h.2 in
    from_history g frames m ms t w now
    (told_by_event m.before t w m.event m.outcome m.after before h.1 (inr (subst (λ (n : State). Carries (n.calls t) w) (sym h.0) c)))
    (carried_word g frames ms m.before t w h.2)

-- the word with which a load ends is the last word of its page where a step of its call read it
pub ended_word : (g : Geometry) (frames : ℕ) (past : List Moment) (m : Moment) (t : ℕ) (grant : Bool) (w : ℕ)
    → History g frames (m ∷ past) m.after → m.event ≡ Step t grant → m.outcome ≡ outcome.Ended (answer.Word w)
    → ReadTheLastWord t w (m ∷ past)
ended_word g frames past m t grant w h is ends =
    let before = history_well g frames past m.before h.2 in
    from_history g frames m past t w h (told_by_event m.before t w m.event m.outcome m.after before h.1 (inl (grant, is, ends)))
    (carried_word g frames past m.before t w h.2)
