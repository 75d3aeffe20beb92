-- What a begin and a step of a call in flight are told as, and what they leave of the call.
use Rattle.std.proofs.Common.{◌≡◌, ℕ, ◌≤◌, Bool, false, Option, Some, None, IsSome, refl, sym, ap, subst, ◌∙◌}
use Rattle.hp_base.proofs.Puts.{put_same}
use Rattle.hp_base.specs.declared.event.Op.{Op}
use Rattle.hp_base.specs.declared.event.Event.TheVariants.{Begin, Step}
use Rattle.hp_machine.specs.State.{Pool, State, pool_of, is_dead, is_killed}
use Rattle.hp_machine.specs.Events.{CallRow, IsReached, Row, first, outcome_of, left}
use Rattle.hp_machine.specs.declared.call.Call.{Call}
use Rattle.hp_machine.specs.declared.call.Call.TheVariants as call
use Rattle.hp_machine.specs.declared.call.Turn.{Turn}
use Rattle.hp_machine.specs.declared.call.Turn.TheVariants.{Moved, Blocked, Ended}
use Rattle.hp_machine.specs.declared.outcome.Outcome.{Outcome}
use Rattle.hp_machine.specs.declared.outcome.Outcome.TheVariants as outcome
use Rattle.hp_laws.specs.Laws.{Began, Went}
use Rattle.hp_laws.proofs.Reading.{begin_cases, step_of}
use Rattle.hp_laws.proofs.Runs.{always}
use Rattle.hp_laws.proofs.Waiting.{blocked_by_holder}

-- a begin that is begun, or refused
pub begins : (s : State) (t : ℕ) (p : Op) (o : Outcome) (n : State) → Row s (Begin t p) o n → Began s t p o n
begins s t p o n row = begin_cases s t p o n (Began s t p o n) row
    (λ why e d. subst (λ (m : Outcome). Began s t p m n) (sym e) d)
    (λ lives none may e d. subst (λ (m : Outcome). Began s t p m n) (sym e)
    (ap (λ (m : State). m.calls t) d ∙ put_same s.calls t (Some (first p))))

-- what a turn may be told as, and the call that it leaves then
abbrev Leaves : Outcome → Option Call → Type 0
Leaves (outcome.Moved p) next = IsSome next
Leaves (outcome.Blocked holder) next = Unit {0}
Leaves (outcome.Ended a) next = next ≡ None
Leaves outcome.Begun next = ⊥
Leaves (outcome.Refused why) next = ⊥
Leaves outcome.Marked next = ⊥
Leaves (outcome.Resized frames) next = ⊥

turn_leaves : {P : Type 0} (call : P → Call) (turn : Turn P) → Leaves (outcome_of call turn) (left call turn)
turn_leaves call (Moved p) = refl
turn_leaves call (Blocked p holder) = tt
turn_leaves call (Ended a) = refl

-- so does the turn of a call
of_turn : {P : Type 0} (call : P → Call) (turn : Turn P) (o : Outcome) (next : Option Call) → o ≡ outcome_of call turn
    → next ≡ left call turn → Leaves o next
of_turn call turn o next e l =
    subst (λ (m : Outcome). Leaves m next) (sym e)
    (subst (λ (m : Option Call). Leaves (outcome_of call turn) m) (sym l) (turn_leaves call turn))

-- by the rows of each operation
call_leaves : (s : Pool) (t : ℕ) (killed grant : Bool) (c : Call) (o : Outcome) (new : Pool) (next : Option Call)
    → CallRow s t killed grant c o new next → Leaves o next
unfolding CallRow
call_leaves s t killed grant (call.Touch p) o new next (turn, row, tells, leaves) = of_turn call.Touch turn o next tells leaves
call_leaves s t killed grant (call.Map p) o new next (turn, row, tells, leaves) = of_turn call.Map turn o next tells leaves
call_leaves s t killed grant (call.Alloc p) o new next (turn, row, tells, leaves) = of_turn call.Alloc turn o next tells leaves
call_leaves s t killed grant (call.Punch p) o new next (turn, row, tells, leaves) = of_turn call.Punch turn o next tells leaves
call_leaves s t killed grant (call.Truncate p) o new next (turn, row, tells, leaves) =
    of_turn call.Truncate turn o next tells leaves
call_leaves s t killed grant (call.Unmap p) o new next (turn, row, tells, leaves) = of_turn call.Unmap turn o next tells leaves
call_leaves s t killed grant (call.Exit p) o new next (turn, row, tells, leaves) = of_turn call.Exit turn o next tells leaves

-- and of the state after it
went : (s n : State) (t : ℕ) (o : Outcome) (next : Option Call) → n.calls t ≡ next
    → ((u : ℕ) → o ≡ outcome.Blocked u → n ≡ s) → Leaves o next → Went s t o n
went s n t (outcome.Moved p) next e waits h = subst (λ (m : Option Call). IsSome m) (sym e) h
went s n t (outcome.Blocked u) next e waits h = waits u refl
went s n t (outcome.Ended a) next e waits h = e ∙ h
went s n t outcome.Begun next e waits h = h
went s n t (outcome.Refused why) next e waits h = h
went s n t outcome.Marked next e waits h = h
went s n t (outcome.Resized m) next e waits h = h

-- a step of a call in flight
pub call_steps_on : (s : State) (t : ℕ) (grant : Bool) (c : Call) (o : Outcome) (n : State) → IsReached s → s.calls t ≡ Some c
    → Row s (Step t grant) o n → Went s t o n
call_steps_on s t grant c o n reached e row =
    let a = step_of s t grant c o n row ((always s reached).lives.busy t c e) e in
    went s n t o a.1 (ap (λ (m : State). m.calls t) a.3 ∙ put_same s.calls t a.1)
    (λ u b. (blocked_by_holder s t grant u n reached (subst (λ (m : Outcome). Row s (Step t grant) m n) b row)).0)
    (call_leaves (pool_of s) t (is_killed (s.life t)) grant c o a.0 a.1 a.2)

-- whoever has a call in flight is there, and lives
pub callers_live : (s : State) (t : ℕ) (c : Call) → IsReached s → s.calls t ≡ Some c
    → (1 ≤ t) × (t ≤ s.geometry.tasks) × (is_dead (s.life t) ≡ false)
callers_live s t c reached e =
    let h = (always s reached).lives in
    let lives = h.busy t c e in
    let there = h.there t lives in
    (there.0, there.1, lives)
