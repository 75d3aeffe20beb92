-- An allocation whose change found nothing missing at an index gets past that index for want of no frame.
use Rattle.std.proofs.Common.{◌≡◌, ℕ, ◌+◌, ◌≤◌, sym, subst, arith}
use Rattle.std.specs.Prelude.{Bool, not, ◌&&◌, ◌==◌, nat_lt, is_some, Option, Some, None, IfSome, List, [], ◌∷◌}
use Rattle.hp_base.specs.declared.answer.Answer.{Answer}
use Rattle.hp_base.specs.declared.event.Event.{Event}
use Rattle.hp_base.proofs.Puts.{put_same}
use Rattle.hp_machine.specs.State.{Pool, State, pool_of, slot_of, frees, quota_is_used_up, is_killed}
use Rattle.hp_machine.specs.AllocRows.{AllocRow}
use Rattle.hp_machine.specs.Events.{Row, CallRow, Run, IsReached, left}
use Rattle.hp_machine.specs.declared.alloc.Changed.{Changed}
use Rattle.hp_machine.specs.declared.alloc.Unslot.{Unslot}
use Rattle.hp_machine.specs.declared.alloc.AllocPhase.{AllocPhase}
use Rattle.hp_machine.specs.declared.alloc.AllocPhase.TheVariants as alloc
use Rattle.hp_machine.specs.declared.outcome.Outcome.{Outcome}
use Rattle.hp_machine.specs.declared.call.Call.{Call}
use Rattle.hp_machine.specs.declared.call.Call.TheVariants as call
use Rattle.hp_machine.specs.declared.call.Turn.{Turn}
use Rattle.hp_machine.specs.declared.call.Turn.TheVariants.{Moved, Blocked, Ended}
use Rattle.hp_laws.specs.Bounds.{is_begun, calls_begun}
use Rattle.hp_laws.specs.Promises.{TellsNoLack}
use Rattle.hp_laws.proofs.Deciding.{nil_passes}
use Rattle.hp_laws.proofs.Shared.{by_test, by_option}
use Rattle.hp_laws.proofs.Runs.{Always, always, row_keeps}
use Rattle.hp_laws.proofs.Serving.{TurnWell, at_leaf, sure_commit, own_or_same}

-- where the call ends, any answer will do
abbrev Any : Answer → Type 0
Any a = Unit {0}

-- an allocation that found nothing missing at index i stands there or past it, and lacks no frame there
abbrev Past : ℕ → AllocPhase → Type 0
Past i (alloc.Start p) = ⊥
Past i (alloc.Head p) = i + 1 ≤ p.index
Past i (alloc.Want p) = i + 1 ≤ p.index
Past i (alloc.Locked p) = i + 1 ≤ p.index
Past i (alloc.Missing p) = i + 1 ≤ p.index
Past i (alloc.Changed p) = (i ≤ p.index) × (p.index ≡ i → p.pending.missing ≡ 0)
Past i (alloc.Abort p) = (i ≤ p.index) × (p.index ≡ i → TellsNoLack p.answer)
Past i (alloc.Taken p) = i ≤ p.index
Past i (alloc.Settle p) = i ≤ p.index
Past i (alloc.Committed p) = i ≤ p.index
Past i (alloc.Restore p) = (i ≤ p.index) × (p.index ≡ i → TellsNoLack p.answer)
Past i (alloc.Unslot p) = (i ≤ p.index) × (p.index ≡ i → IfSome p.answer TellsNoLack)
Past i (alloc.Extend p) = Unit {0}
Past i (alloc.Leave p) = Unit {0}

-- past an index is at least at it
low : (i k : ℕ) → i + 1 ≤ k → i ≤ k
low i k h = omega arith

-- past an index isn't at it
beyond : {P : Type 0} (i k : ℕ) → i + 1 ≤ k → k ≡ i → P
beyond i k h e = absurd (omega arith)

-- each row leaves the allocation at the index or past it, and never gives up there for want of a frame
past_turn : (s : State) (t : ℕ) (killed grant : Bool) (i : ℕ) (phase : AllocPhase) (turn : Turn AllocPhase) (new : Pool)
    → Past i phase → AllocRow (pool_of s) t killed grant phase turn new → TurnWell AllocPhase (Past i) Any turn
past_turn s t killed grant i (alloc.Start p) turn new h row = absurd h
past_turn s t killed grant i (alloc.Head p) turn new h row =
    by_test killed row (λ _ r. at_leaf (Past i) Any _ turn r.0 tt) (λ _ r. at_leaf (Past i) Any _ turn r.0 h)
past_turn s t killed grant i (alloc.Want p) turn new h row = by_test killed row
    (λ _ r. at_leaf (Past i) Any _ turn r.0 tt)
    (λ _ r. by_option (s.slots (slot_of s.geometry p.allocation.file p.index)) r
    (λ _ r. at_leaf (Past i) Any _ turn r.0 h) (λ u _ r. at_leaf (Past i) Any (Blocked (alloc.Want p) u) turn r.0 h))
past_turn s t killed grant i (alloc.Locked p) turn new h row = by_test (is_some (s.pages p.allocation.file p.index)) row
    (λ _ r. at_leaf (Past i) Any _ turn r.0 (low i p.index h, λ e. beyond i p.index h e))
    (λ _ r. at_leaf (Past i) Any _ turn r.0 h)
past_turn s t killed grant i (alloc.Missing p) turn new h row =
    by_test ((s.spare p.allocation.file == s.pending p.allocation.file) && not grant) row
    (λ _ r. at_leaf (Past i) Any _ turn r.0 (low i p.index h, λ e. beyond i p.index h e))
    (λ _ r. at_leaf (Past i) Any _ turn r.0 (low i p.index h, λ e. beyond i p.index h e))
past_turn s t killed grant i (alloc.Changed p) turn new h row = by_test killed row
    (λ _ r. at_leaf (Past i) Any _ turn r.0 (h.0, λ e. (λ z. cc, λ z. cc)))
    (λ _ r. by_test (p.pending.missing == 0) r
    (λ _ r. at_leaf (Past i) Any _ turn r.3.0 h.0)
    (λ some r. by_test (quota_is_used_up (pool_of s)) r
    (λ _ r. at_leaf (Past i) Any _ turn r.0 (h.0, λ e. nil_passes p.pending.missing (h.1 e) some))
    (λ _ r. by_test (frees (pool_of s) == s.resv) r
    (λ _ r. at_leaf (Past i) Any _ turn r.0 (h.0, λ e. nil_passes p.pending.missing (h.1 e) some))
    (λ _ r. at_leaf (Past i) Any _ turn r.2.0 h.0))))
past_turn s t killed grant i (alloc.Abort p) turn new h row = at_leaf (Past i) Any _ turn row.0 h
past_turn s t killed grant i (alloc.Taken p) turn new h row =
    sure_commit (Past i) Any s p.allocation.file p.pending.from p.pending.to p.pending.missing _ _ turn new row h h
past_turn s t killed grant i (alloc.Settle p) turn new h (some, used, row) = at_leaf (Past i) Any _ turn row.0 h
past_turn s t killed grant i (alloc.Committed p) turn new h row = by_test grant row
    (λ _ r. at_leaf (Past i) Any _ turn r.0 (h, λ e. tt))
    (λ _ r. at_leaf (Past i) Any _ turn r.0 (h, λ e. (λ z. cc, λ z. cc)))
past_turn s t killed grant i (alloc.Restore p) turn new h row = at_leaf (Past i) Any _ turn row.0 h
past_turn s t killed grant i (alloc.Unslot p) turn new h row = by_option p.answer row
    (λ _ r. by_test (nat_lt (p.index + 1) (p.allocation.from + p.allocation.len)) r
    (λ _ r. at_leaf (Past i) Any _ turn r.0 (omega arith))
    (λ _ r. by_test p.allocation.keep r (λ _ r. at_leaf (Past i) Any _ turn r.0 tt) (λ _ r. at_leaf (Past i) Any _ turn r.0 tt)))
    (λ a _ r. at_leaf (Past i) Any _ turn r.0 tt)
past_turn s t killed grant i (alloc.Extend p) turn new h row = at_leaf (Past i) Any _ turn row.0 tt
past_turn s t killed grant i (alloc.Leave p) turn new h row = at_leaf (Past i) Any _ turn row.0 tt

-- the same of the task's call, over or in flight
abbrev CallPast : ℕ → Option Call → Type 0
CallPast i None = Unit {0}
CallPast i (Some (call.Alloc phase)) = Past i phase
CallPast i (Some other) = ⊥

-- so does the call that the turn leaves
next_past : (i : ℕ) (turn : Turn AllocPhase) → TurnWell AllocPhase (Past i) Any turn → CallPast i (left call.Alloc turn)
next_past i (Moved p) h = h
next_past i (Blocked p u) h = h
next_past i (Ended a) h = tt

-- and each step of it
past_call : (s : State) (t : ℕ) (killed grant : Bool) (i : ℕ) (c : Call) (o : Outcome) (pool : Pool) (next : Option Call)
    → CallPast i (Some c) → CallRow (pool_of s) t killed grant c o pool next → CallPast i next
unfolding CallRow
past_call s t killed grant i (call.Alloc p) o pool next w (turn, row, tells, leaves) =
    subst (CallPast i) (sym leaves) (next_past i turn (past_turn s t killed grant i p turn pool w row))
past_call s t killed grant i (call.Touch p) o pool next w row = absurd w
past_call s t killed grant i (call.Map p) o pool next w row = absurd w
past_call s t killed grant i (call.Punch p) o pool next w row = absurd w
past_call s t killed grant i (call.Truncate p) o pool next w row = absurd w
past_call s t killed grant i (call.Unmap p) o pool next w row = absurd w
past_call s t killed grant i (call.Exit p) o pool next w row = absurd w

-- and any event that begins no call of the task
past_row : (s : State) (t i : ℕ) (event : Event) (o : Outcome) (n : State) → Always s → is_begun t event o ≡ 0
    → CallPast i (s.calls t) → Row s event o n → CallPast i (n.calls t)
past_row s t i event o n h quiet w row = own_or_same s t event o n (CallPast i (n.calls t)) h quiet row
    (λ calls mappings lives no_end. subst (CallPast i) (sym calls) w)
    (λ grant c pool next is e r d. subst (λ (m : State). CallPast i (m.calls t)) (sym d) (subst (CallPast i) (sym (put_same s.calls t next))
    (past_call s t (is_killed (s.life t)) grant i c o pool next (subst (CallPast i) e w) r)))

-- so over a run that begins none
past_run : (t i : ℕ) (s : State) (es : List (Event × Outcome)) (n : State) → Run s es n → Always s → calls_begun t es ≡ 0
    → CallPast i (s.calls t) → CallPast i (n.calls t)
past_run t i s [] n r h quiet w = subst (λ (m : State). CallPast i (m.calls t)) (sym r) w
past_run t i s (e ∷ es) n r h quiet w =
    past_run t i r.0 es n r.2 (row_keeps s e.0 e.1 r.0 h r.1) (omega arith) (past_row s t i e.0 e.1 r.0 h (omega arith) w r.1)

-- an allocation whose change found nothing missing at an index doesn't leave that index for want of a frame
pub alloc_never_lacks : (s : State) (t : ℕ) (p : Changed) (rest : List (Event × Outcome)) (n : State) (q : Unslot)
    → IsReached s → s.calls t ≡ Some (call.Alloc (alloc.Changed p)) → p.pending.missing ≡ 0 → Run s rest n
    → calls_begun t rest ≡ 0 → n.calls t ≡ Some (call.Alloc (alloc.Unslot q)) → q.index ≡ p.index → IfSome q.answer TellsNoLack
alloc_never_lacks s t p rest n q reached e none run quiet there same =
    let start : CallPast p.index (s.calls t) = subst (CallPast p.index) (sym e) (omega arith, λ z. none) in
    let w : CallPast p.index (Some (call.Alloc (alloc.Unslot q))) =
    subst (CallPast p.index) there (past_run t p.index s rest n run (always s reached) quiet start) in
    w.1 same
