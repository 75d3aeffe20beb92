-- Which events change nothing.
use Rattle.std.proofs.Common.{◌≡◌, ℕ, refl, sym, subst}
use Rattle.std.specs.Prelude.{Bool, Option, Some, None}
use Rattle.hp_base.specs.declared.event.Event.{Event}
use Rattle.hp_base.specs.declared.event.Event.TheVariants.{Begin, Step, Kill, Resize}
use Rattle.hp_machine.specs.State.{Pool, pool_of as pool_in}
use Rattle.hp_machine.specs.Events as rows
use Rattle.hp_machine.specs.declared.call.Call.{Call}
use Rattle.hp_machine.specs.declared.call.Call.TheVariants as call
use Rattle.hp_machine.specs.declared.call.Turn.{Turn}
use Rattle.hp_machine.specs.declared.call.Turn.TheVariants.{Moved, Blocked, Ended}
use Rattle.hp_machine.specs.declared.outcome.Outcome.{Outcome}
use Rattle.hp_machine.specs.declared.outcome.Outcome.TheVariants as outcome
use Rattle.hp_machine.specs.declared.outcome.Refusal.{Refusal}
use Rattle.hp_core.specs.State.{CoreState, as_state, calls_of, lives_of}
use Rattle.hp_core.specs.HeldBack.{HeldBack, event_blocker, idle_outcome}
use Rattle.hp_core.specs.Refusals.{refusal_of}
use Rattle.hp_core.specs.Runs.{Row, IsIdle}
use Rattle.hp_core.specs.Waiting.{WaitsFor}
use Rattle.hp_core.specs.Sound.{IsSound}
use Rattle.hp_core.proofs.Refusals.{begin_admitted, kill_admitted, step_admitted, resize_admitted, refused_is}
use Rattle.hp_core.proofs.Waits.{waits}

-- no turn is told as a refusal
turn_told : {P : Type 0} (call : P → Call) (turn : Turn P) (why : Refusal) → outcome.Refused why ≡ rows.outcome_of call turn → ⊥
turn_told call (Moved p) why e = absurd (cc)
turn_told call (Blocked p holder) why e = absurd (cc)
turn_told call (Ended a) why e = absurd (cc)

call_told : (s : Pool) (t : ℕ) (killed grant : Bool) (c : Call) (why : Refusal) (new : Pool) (next : Option Call)
    → rows.CallRow s t killed grant c (outcome.Refused why) new next → ⊥
unfolding rows.CallRow
call_told s t killed grant (call.Touch p) why new next row = turn_told call.Touch row.0 why row.2
call_told s t killed grant (call.Map p) why new next row = turn_told call.Map row.0 why row.2
call_told s t killed grant (call.Alloc p) why new next row = turn_told call.Alloc row.0 why row.2
call_told s t killed grant (call.Punch p) why new next row = turn_told call.Punch row.0 why row.2
call_told s t killed grant (call.Truncate p) why new next row = turn_told call.Truncate row.0 why row.2
call_told s t killed grant (call.Unmap p) why new next row = turn_told call.Unmap row.0 why row.2
call_told s t killed grant (call.Exit p) why new next row = turn_told call.Exit row.0 why row.2

-- what is told of an event that changes something is no word for one that doesn't
busy : (told wanted : Outcome) → told ≡ wanted → (IsIdle wanted → ⊥) → IsIdle told → ⊥
busy told wanted e not_idle idle = not_idle (subst (λ (o : Outcome). IsIdle o) e idle)

-- a refused event may do nothing
pub refused_row : (s : CoreState) (event : Event) (why : Refusal) → refusal_of s.task_states event ≡ Some why
    → HeldBack s event (Some (outcome.Refused why))
unfolding HeldBack Row
refused_row s event why e = (tt, (refused_is s.parts s.task_states event why e, refl))

-- nobody holds up the event, or that task does
abbrev pub IsFree : CoreState → Event → Type 0
IsFree s (Begin t op) = Unit {0}
IsFree s (Step t grant) = WaitsFor s t None
IsFree s (Kill t) = Unit {0}
IsFree s (Resize n) = Unit {0}

abbrev pub IsBlocked : CoreState → Event → (holder : ℕ) → Type 0
IsBlocked s (Begin t op) holder = ⊥
IsBlocked s (Step t grant) holder = WaitsFor s t (Some holder)
IsBlocked s (Kill t) holder = ⊥
IsBlocked s (Resize n) holder = ⊥

-- of a step that isn't refused nothing comes only where its call is blocked
step_busy : (s new : CoreState) (t : ℕ) (grant : Bool) (told : Outcome) → refusal_of s.task_states (Step t grant) ≡ None
    → WaitsFor s t None → Row s (Step t grant) told new → IsIdle told → ⊥
unfolding Row rows.StepRow WaitsFor lives_of calls_of
step_busy s new t grant outcome.Begun e waits row idle = idle
step_busy s new t grant (outcome.Moved p) e waits row idle = idle
step_busy s new t grant (outcome.Blocked holder) e waits row idle = waits grant holder new row
step_busy s new t grant (outcome.Ended a) e waits row idle = idle
step_busy s new t grant outcome.Marked e waits row idle = idle
step_busy s new t grant (outcome.Resized n) e waits row idle = idle
step_busy s new t grant (outcome.Refused why) e waits row idle =
    let found = step_admitted (as_state s) (as_state new) _ _ _ _ e row.0 in
    call_told _ t _ grant found.0 why found.1.0 found.1.1 found.1.2

-- an event that isn't refused, and no step that is blocked, changes something
pub admitted_row : (s : CoreState) (event : Event) → refusal_of s.task_states event ≡ None → IsFree s event → HeldBack s event None
unfolding HeldBack Row rows.BeginRow rows.KillRow lives_of calls_of
admitted_row s (Begin t op) e waits = λ told new row.
    busy told outcome.Begun (begin_admitted (as_state s) _ (as_state new) _ _ _ told e row.0) (λ idle. idle)
admitted_row s (Step t grant) e waits = λ told new row. step_busy s new t grant told e waits row
admitted_row s (Kill t) e waits = λ told new row.
    busy told outcome.Marked (kill_admitted (as_state s) _ (as_state new) _ told e row.0) (λ idle. idle)
admitted_row s (Resize n) e waits = λ told new row.
    let resized = resize_admitted (pool_in (as_state s)) row.0.0 n told e row.0.1 in busy told _ resized.1 (λ idle. idle)

-- a step that is blocked may be, and change nothing
pub blocked_row : (s : CoreState) (event : Event) (holder : ℕ) → IsBlocked s event holder → HeldBack s event (Some (outcome.Blocked holder))
unfolding HeldBack WaitsFor
blocked_row s (Begin t op) holder waits = absurd waits
blocked_row s (Step t grant) holder waits = (tt, waits grant)
blocked_row s (Kill t) holder waits = absurd waits
blocked_row s (Resize n) holder waits = absurd waits

-- what the readers of the task states find, of the core that they belong to
pub read_back : (inside seen : CoreState) (event : Event) (why : Option Refusal) (holder : Option ℕ) → inside ≡ seen → IsSound inside
    → why ≡ refusal_of inside.task_states event → holder ≡ event_blocker inside.parts inside.task_states event
    → HeldBack seen event (idle_outcome why holder)
read_back inside seen event why holder same sound refused blocked =
    subst (λ (s : CoreState). HeldBack s event (idle_outcome why holder)) same (by_refusal why (sym refused) holder (sym blocked))
  where
    free : (e : Event) → event_blocker inside.parts inside.task_states e ≡ None → IsFree inside e
    free (Begin t op) none = tt
    free (Step t grant) none = waits {inside = inside} {seen = inside} t None refl sound (sym none)
    free (Kill t) none = tt
    free (Resize n) none = tt

    stuck : (e : Event) (h : ℕ) → event_blocker inside.parts inside.task_states e ≡ Some h → IsBlocked inside e h
    stuck (Begin t op) h is = (let d : ◌≡◌ {A = Option ℕ} None (Some h) = is in absurd (cc))
    stuck (Step t grant) h is = waits {inside = inside} {seen = inside} t (Some h) refl sound (sym is)
    stuck (Kill t) h is = (let d : ◌≡◌ {A = Option ℕ} None (Some h) = is in absurd (cc))
    stuck (Resize n) h is = (let d : ◌≡◌ {A = Option ℕ} None (Some h) = is in absurd (cc))

    by_refusal : (r : Option Refusal) → refusal_of inside.task_states event ≡ r → (h : Option ℕ)
        → event_blocker inside.parts inside.task_states event ≡ h → HeldBack inside event (idle_outcome r h)
    by_refusal (Some r) e h is = refused_row inside event r e
    by_refusal None e (Some h) is = blocked_row inside event h (stuck event h is)
    by_refusal None e None is = admitted_row inside event e (free event is)
