-- What is blocked or refused leaves the core as it was.
use Rattle.std.proofs.Common.{◌≡◌, ℕ, List, refl, sym, ◌∙◌, subst, inl, inr, ◌⊎◌}
use Rattle.std.specs.Prelude.{Bool, Option, Some, None, IfSome, Result, Ok, Err, IfOk}
use Rattle.std.specs.declared.alloc.AllocError.{AllocError}
use Rattle.hp_base.specs.declared.event.Event.{Event}
use Rattle.hp_base.specs.declared.event.Event.TheVariants.{Begin, Step, Kill, Resize}
use Rattle.hp_machine.specs.State.{Pool, State, is_dead, is_killed}
use Rattle.hp_machine.specs.Events as rows
use Rattle.hp_machine.specs.Standings.{Want, Nothing, Lock, Slot, standing}
use Rattle.hp_machine.specs.Views.{wants_slot, wants_lock, slot_of_want, lock_of}
use Rattle.hp_machine.specs.declared.unmap.UnmapPhase.{UnmapPhase}
use Rattle.hp_machine.specs.declared.unmap.UnmapPhase.TheVariants as unmap
use Rattle.hp_machine.specs.declared.exit.ExitPhase.{ExitPhase}
use Rattle.hp_machine.specs.declared.exit.ExitPhase.TheVariants as exit
use Rattle.hp_machine.specs.declared.outcome.Outcome.{Outcome}
use Rattle.hp_machine.specs.declared.outcome.Outcome.TheVariants as outcome
use Rattle.hp_machine.specs.declared.outcome.Refusal.{Refusal}
use Rattle.hp_machine.specs.declared.call.Call.{Call}
use Rattle.hp_machine.specs.declared.call.Call.TheVariants as call
use Rattle.hp_machine.specs.declared.call.Stopped.{Stopped}
use Rattle.hp_machine.specs.declared.call.Turn.{Turn}
use Rattle.hp_machine.specs.declared.call.Turn.TheVariants.{Moved, Blocked, Ended}
use Rattle.hp_laws.specs.Bounds.{HoldsUp}
use Rattle.hp_laws.proofs.Waiting.{blocked_by_holder}
use Rattle.hp_parts.specs.State.{PartsState}
use Rattle.hp_parts.specs.View.{pool_of}
use Rattle.hp_parts.specs.Turns.{IfBlocked, IfWanting}
use Rattle.hp_core.specs.declared.task_state.TaskState.{TaskState}
use Rattle.hp_core.specs.State.{CoreState, task_state_at, as_state, state_with, calls_of}
use Rattle.hp_core.specs.Fits.{EventFits}
use Rattle.hp_core.specs.Refusals.{refusal_of}
use Rattle.hp_core.specs.TaskStates.{StepTaskStates, AdmittedTaskStates, EventTaskStates, BlockedStays}
use Rattle.hp_core.specs.Sound.{IsSound}
use Rattle.hp_core.specs.Runs.{IsIdle}
use Rattle.hp_core.specs.Turns.{Settles, IfOutcomeBlocked}
use Rattle.hp_core.proofs.Headlines.{reached_of}
use Rattle.hp_core.proofs.Refusals.{by_some, not_idle, resize_admitted, event_is}
use Rattle.hp_core.proofs.TaskStates.{by_option}
use Rattle.hp_core.proofs.Steps.{with_fields}

-- where nothing is asked of a blocked outcome, each will do
any_outcome : (o : Outcome) → IfOutcomeBlocked o (Unit {0})
any_outcome outcome.Begun = tt
any_outcome (outcome.Moved p) = tt
any_outcome (outcome.Blocked u) = tt
any_outcome (outcome.Ended a) = tt
any_outcome outcome.Marked = tt
any_outcome (outcome.Resized frames) = tt
any_outcome (outcome.Refused why) = tt

-- what holds where a call stands again where it stood holds behind a turn that waits where something is wanted
turn_blocked : {P : Type 0} (inflight : P → Call) (here : P) (Q : Type 0) (R : Option Call → Type 0) → R (Some (inflight here))
    → (w : Want) (turn : Turn P) → IfWanting w (IfBlocked turn (λ again. (again ≡ here) × Q))
    → IfOutcomeBlocked (rows.outcome_of inflight turn) (IfWanting w (Q × R (rows.left inflight turn)))
turn_blocked inflight here Q R stood Nothing turn h = any_outcome (rows.outcome_of inflight turn)
turn_blocked inflight here Q R stood (Lock f) (Moved p) h = tt
turn_blocked inflight here Q R stood (Lock f) (Blocked p u) h = (h.1, subst (λ again. R (Some (inflight again))) (sym h.0) stood)
turn_blocked inflight here Q R stood (Lock f) (Ended a) h = tt
turn_blocked inflight here Q R stood (Slot f i) (Moved p) h = tt
turn_blocked inflight here Q R stood (Slot f i) (Blocked p u) h = (h.1, subst (λ again. R (Some (inflight again))) (sym h.0) stood)
turn_blocked inflight here Q R stood (Slot f i) (Ended a) h = tt

-- so a blocked turn of a task's call leaves the task's state as it was
pub settled_blocked : {P : Type 0} (inflight : P → Call) (here : P) (Q : Type 0)
    (stepped : Result (Turn P) (Stopped P)) (result : Result Outcome AllocError) (old new : TaskState)
    → old.call ≡ Some (inflight here) → new.life ≡ old.life → Settles inflight stepped result new.call
    → IfOk stepped (λ turn. IfWanting (standing (inflight here)).wants (IfBlocked turn (λ again. (again ≡ here) × Q)))
    → IfOk result (λ o. IfOutcomeBlocked o (IfSome old.call (λ call. IfWanting (standing call).wants (Q × (new ≡ old)))))
settled_blocked inflight here Q (Ok turn) result old new was lives h b =
    let Stays : Call → Type 0 = λ call. IfWanting (standing call).wants (Q × (new ≡ old)) in
    let Same : Option Call → Type 0 = λ next. record { life = new.life; call = next } ≡ old in
    subst (λ (res : Result Outcome AllocError). IfOk res (λ o. IfOutcomeBlocked o (IfSome old.call Stays))) (sym h.0)
    (subst (λ (o : Option Call). IfOutcomeBlocked (rows.outcome_of inflight turn) (IfSome o Stays)) (sym was)
    (subst (λ (o : Option Call). IfOutcomeBlocked (rows.outcome_of inflight turn) (IfWanting (standing (inflight here)).wants (Q × Same o)))
    (sym h.1)
    (turn_blocked inflight here Q Same (λ i. record { life = lives i; call = sym was i }) (standing (inflight here)).wants turn b)))
settled_blocked inflight here Q (Err stopped) (Err e) old new was lives h b = tt
settled_blocked inflight here Q (Err stopped) (Ok o) old new was lives h b = (let no = h.0 in absurd (cc))

-- an unmap wants neither lock nor slot
pub unmap_wants : (p : UnmapPhase) (Q : Type 0) → IfWanting (standing (call.Unmap p)).wants Q
unmap_wants (unmap.Start p) Q = tt
unmap_wants (unmap.Clear p) Q = tt
unmap_wants (unmap.Drop p) Q = tt

-- nor does an exit
pub exit_wants : (p : ExitPhase) (Q : Type 0) → IfWanting (standing (call.Exit p)).wants Q
exit_wants exit.Start Q = tt
exit_wants (exit.Clear p) Q = tt
exit_wants (exit.Drop p) Q = tt
exit_wants exit.Leave Q = tt

-- what only calls that want something ensure holds of one that does
unguarded : (w : Want) (Q : Type 0) → ((k : ℕ × ℕ) × (slot_of_want w ≡ Some k)) ⊎ ((f : ℕ) × (lock_of w ≡ Some f)) → IfWanting w Q → Q
unguarded Nothing Q (inl k) h = (let d : ◌≡◌ {A = Option (ℕ × ℕ)} None (Some k.0) = k.1 in absurd (cc))
unguarded Nothing Q (inr f) h = (let d : ◌≡◌ {A = Option ℕ} None (Some f.0) = f.1 in absurd (cc))
unguarded (Lock f) Q some h = h
unguarded (Slot f i) Q some h = h

-- what holds of calls that want something holds of one that wants a slot or a lock
acquiring : (o : Option Call) (Q : Type 0) → ((k : ℕ × ℕ) × (wants_slot o ≡ Some k)) ⊎ ((f : ℕ) × (wants_lock o ≡ Some f))
    → IfSome o (λ c. IfWanting (standing c).wants Q) → Q
acquiring None Q (inl k) h = (let d : ◌≡◌ {A = Option (ℕ × ℕ)} None (Some k.0) = k.1 in absurd (cc))
acquiring None Q (inr f) h = (let d : ◌≡◌ {A = Option ℕ} None (Some f.0) = f.1 in absurd (cc))
acquiring (Some c) Q some h = unguarded (standing c).wants Q some h

-- who is held up wants something
wants_of : (s : State) (u t : ℕ) → HoldsUp s u t
    → ((k : ℕ × ℕ) × (wants_slot (s.calls t) ≡ Some k)) ⊎ ((f : ℕ) × (wants_lock (s.calls t) ≡ Some f))
wants_of s u t (inl h) = inl (h.0, h.2)
wants_of s u t (inr h) = inr (h.0, h.1)

-- what a turn tells is no refusal
not_refused : {P X : Type 0} (inflight : P → Call) (turn : Turn P) (why : Refusal) (o : Outcome) → o ≡ outcome.Refused why
    → o ≡ rows.outcome_of inflight turn → X
not_refused inflight (Moved p) why o e d =
    (let z : outcome.Refused why ≡ outcome.Moved (rows.word_of (inflight p)) = sym e ∙ d in absurd (cc))
not_refused inflight (Blocked p u) why o e d = (let z : outcome.Refused why ≡ outcome.Blocked u = sym e ∙ d in absurd (cc))
not_refused inflight (Ended a) why o e d = (let z : outcome.Refused why ≡ outcome.Ended a = sym e ∙ d in absurd (cc))

-- a step of a call isn't refused
call_not_refused : {X : Type 0} (s : Pool) (t : ℕ) (killed grant : Bool) (c : Call) (o : Outcome) (new : Pool)
    (next : Option Call) (why : Refusal)
    → rows.CallRow s t killed grant c o new next → o ≡ outcome.Refused why → X
unfolding rows.CallRow
call_not_refused s t killed grant (call.Touch p) o new next why (turn, row, tells, leaves) e = not_refused call.Touch turn why o e tells
call_not_refused s t killed grant (call.Map p) o new next why (turn, row, tells, leaves) e = not_refused call.Map turn why o e tells
call_not_refused s t killed grant (call.Alloc p) o new next why (turn, row, tells, leaves) e = not_refused call.Alloc turn why o e tells
call_not_refused s t killed grant (call.Punch p) o new next why (turn, row, tells, leaves) e = not_refused call.Punch turn why o e tells
call_not_refused s t killed grant (call.Truncate p) o new next why (turn, row, tells, leaves) e =
    not_refused call.Truncate turn why o e tells
call_not_refused s t killed grant (call.Unmap p) o new next why (turn, row, tells, leaves) e = not_refused call.Unmap turn why o e tells
call_not_refused s t killed grant (call.Exit p) o new next why (turn, row, tells, leaves) e = not_refused call.Exit turn why o e tells

-- a refusal isn't told as begun
not_begun : {X : Type 0} (o : Outcome) (why : Refusal) → o ≡ outcome.Refused why → o ≡ outcome.Begun → X
not_begun o why e d = (let z : outcome.Refused why ≡ outcome.Begun = sym e ∙ d in absurd (cc))

-- nor as marked
not_marked : {X : Type 0} (o : Outcome) (why : Refusal) → o ≡ outcome.Refused why → o ≡ outcome.Marked → X
not_marked o why e d = (let z : outcome.Refused why ≡ outcome.Marked = sym e ∙ d in absurd (cc))

-- nor as resized
not_resized : {X : Type 0} (o : Outcome) (why : Refusal) (n : ℕ) → o ≡ outcome.Refused why → o ≡ outcome.Resized n → X
not_resized o why n e d = (let z : outcome.Refused why ≡ outcome.Resized n = sym e ∙ d in absurd (cc))

-- an event that isn't refused has no refusal for its outcome
admitted_goes : {X : Type 0} (p after : PartsState) (task_states new : List TaskState) (event : Event) (o : Outcome) (why : Refusal)
    → refusal_of task_states event ≡ None → AdmittedTaskStates p task_states event o after new → o ≡ outcome.Refused why → X
unfolding AdmittedTaskStates StepTaskStates
admitted_goes p after task_states new (Begin t op) o why none r e = not_begun o why e r.0
admitted_goes p after task_states new (Kill t) o why none r e = not_marked o why e r.0
admitted_goes p after task_states new (Resize n) o why none r e =
    let found = resize_admitted (pool_of p) (pool_of after) n o none r.0 in not_resized o why found.0 e found.1
admitted_goes p after task_states new (Step t grant) o why none r e =
    by_some (task_state_at task_states t).call r
    (not_idle (is_dead (task_state_at task_states t).life) (task_state_at task_states t).call none)
    (λ c _ q. call_not_refused (pool_of p) t (is_killed (task_state_at task_states t).life) grant c o (pool_of after) q.0.call why q.1 e)

-- a refused event changed nothing
refused_same : (p after : PartsState) (task_states new : List TaskState) (event : Event) (o : Outcome) (why : Refusal)
    → EventTaskStates p task_states event o after new → o ≡ outcome.Refused why → (after ≡ p) × (new ≡ task_states)
unfolding EventTaskStates
refused_same p after task_states new event o why row e =
    by_option (refusal_of task_states event) row
    (λ none r. admitted_goes p after task_states new event o why none r e)
    (λ _ _ r. (r.1, r.2))

-- so did a blocked step
blocked_same : (s : CoreState) (event : Event) (u : ℕ) (after : PartsState) (new : List TaskState) → IsSound s
    → EventFits s.parts s.task_states event → EventTaskStates s.parts s.task_states event (outcome.Blocked u) after new
    → BlockedStays s.parts s.task_states event after new → (after ≡ s.parts) × (new ≡ s.task_states)
unfolding calls_of
blocked_same s (Begin t op) u after new h fits row stays = absurd stays
blocked_same s (Kill t) u after new h fits row stays = absurd stays
blocked_same s (Resize frames) u after new h fits row stays = absurd stays
blocked_same s (Step t grant) u after new h fits row stays =
    let held = blocked_by_holder (as_state s) t grant u (state_with after new) (reached_of s h)
    (event_is s.parts after s.task_states new (Step t grant) (outcome.Blocked u) row) in
    acquiring (task_state_at s.task_states t).call ((after ≡ s.parts) × (new ≡ s.task_states)) (wants_of (as_state s) u t held.2) stays

-- a core with the parts and the task states that it had is that core
same_fields : (s : CoreState) (after : PartsState) (new : List TaskState) → (after ≡ s.parts) × (new ≡ s.task_states)
    → with_fields s after new ≡ s
same_fields s after new e = λ i. record { sizes = s.sizes; parts = e.0 i; task_states = e.1 i; capacity = s.capacity }

-- what comes to nothing leaves the core as it was
pub idle_result : (s : CoreState) (event : Event) (result : Result Outcome AllocError) (after : PartsState) (new : List TaskState)
    → IsSound s → EventFits s.parts s.task_states event
    → IfOk result (λ told. EventTaskStates s.parts s.task_states event told after new)
    → IfOk result (λ told. IfOutcomeBlocked told (BlockedStays s.parts s.task_states event after new))
    → IfOk result (λ told. IsIdle told → with_fields s after new ≡ s)
idle_result s event (Err x) after new h fits row stays = tt
idle_result s event (Ok outcome.Begun) after new h fits row stays = λ idle. absurd idle
idle_result s event (Ok (outcome.Moved p)) after new h fits row stays = λ idle. absurd idle
idle_result s event (Ok (outcome.Ended a)) after new h fits row stays = λ idle. absurd idle
idle_result s event (Ok outcome.Marked) after new h fits row stays = λ idle. absurd idle
idle_result s event (Ok (outcome.Resized frames)) after new h fits row stays = λ idle. absurd idle
idle_result s event (Ok (outcome.Blocked u)) after new h fits row stays =
    λ _. same_fields s after new (blocked_same s event u after new h fits row stays)
idle_result s event (Ok (outcome.Refused why)) after new h fits row stays =
    λ _. same_fields s after new (refused_same s.parts after s.task_states new event (outcome.Refused why) why row refl)
