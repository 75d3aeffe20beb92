-- An event has only outcomes of its own kind, and what is told tells whether something came of it.
use Rattle.std.proofs.Common.{◌≡◌, ℕ, refl, sym, subst}
use Rattle.std.specs.Prelude.{Bool, true, false, Option, Some, None, MatchBool, MatchOption, nat_lt, not, ◌&&◌}
use Rattle.hp_base.specs.Numbers.{put}
use Rattle.hp_base.specs.declared.event.Op.{Op}
use Rattle.hp_base.specs.declared.event.Event.{Event}
use Rattle.hp_base.specs.declared.event.Event.TheVariants.{Begin, Step, Kill, Resize}
use Rattle.hp_machine.specs.State.{Pool, State, actives, is_dead, is_killed, pool_of, with_pool}
use Rattle.hp_machine.specs.Events as rows
use Rattle.hp_machine.specs.Resizes.{ResizeRow, is_size}
use Rattle.hp_machine.specs.declared.call.Call.{Call}
use Rattle.hp_machine.specs.declared.call.Call.TheVariants as call
use Rattle.hp_machine.specs.declared.call.Turn.{Turn}
use Rattle.hp_machine.specs.declared.call.Turn.TheVariants.{Moved, Blocked, Ended}
use Rattle.hp_machine.specs.declared.outcome.Outcome.{Outcome}
use Rattle.hp_machine.specs.declared.outcome.Outcome.TheVariants as outcome
use Rattle.hp_machine.specs.declared.outcome.Refusal.TheVariants.{NotAlive, InCall, Idle, BadSize}
use Rattle.hp_core.specs.State.{CoreState, as_state}
use Rattle.hp_core.specs.Runs.{Row, IsIdle}
use Rattle.hp_shared.specs.Journal.{IsOutcomeOf, is_made}

-- such an outcome is of the event's kind
of_kind : (event : Event) (wanted o : Outcome) → o ≡ wanted → IsOutcomeOf event wanted → IsOutcomeOf event o
of_kind event wanted o is kind = subst (IsOutcomeOf event) (sym is) kind

begin_kind : (t : ℕ) (op : Op) (s begun new : State) (dead killed : Bool) (c : Option Call) (o : Outcome)
    → MatchBool dead (rows.Refuses NotAlive s o new)
    (MatchOption c (MatchBool killed (rows.Refuses NotAlive s o new) (rows.Tells outcome.Begun begun o new))
    (λ (inflight : Call). rows.Refuses InCall s o new)) → IsOutcomeOf (Begin t op) o
begin_kind t op s begun new true killed c o row = of_kind (Begin t op) (outcome.Refused NotAlive) o row.0 tt
begin_kind t op s begun new false killed (Some c) o row = of_kind (Begin t op) (outcome.Refused InCall) o row.0 tt
begin_kind t op s begun new false true None o row = of_kind (Begin t op) (outcome.Refused NotAlive) o row.0 tt
begin_kind t op s begun new false false None o row = of_kind (Begin t op) outcome.Begun o row.0 tt

kill_kind : (t : ℕ) (s marked new : State) (alive : Bool) (o : Outcome)
    → MatchBool alive (rows.Tells outcome.Marked marked o new) (rows.Refuses NotAlive s o new) → IsOutcomeOf (Kill t) o
kill_kind t s marked new true o row = of_kind (Kill t) outcome.Marked o row.0 tt
kill_kind t s marked new false o row = of_kind (Kill t) (outcome.Refused NotAlive) o row.0 tt

turn_kind : {P : Type 0} (t : ℕ) (grant : Bool) (call : P → Call) (turn : Turn P)
    → IsOutcomeOf (Step t grant) (rows.outcome_of call turn)
turn_kind t grant call (Moved p) = tt
turn_kind t grant call (Blocked p holder) = tt
turn_kind t grant call (Ended a) = tt

of_turn : {P : Type 0} (t : ℕ) (grant : Bool) (call : P → Call) (turn : Turn P) (o : Outcome) → o ≡ rows.outcome_of call turn
    → IsOutcomeOf (Step t grant) o
of_turn t grant call turn o is = of_kind (Step t grant) (rows.outcome_of call turn) o is (turn_kind t grant call turn)

call_kind : (s : Pool) (t : ℕ) (killed grant : Bool) (c : Call) (o : Outcome) (new : Pool) (next : Option Call)
    → rows.CallRow s t killed grant c o new next → IsOutcomeOf (Step t grant) o
unfolding rows.CallRow
call_kind s t killed grant (call.Touch p) o new next (turn, row, tells, leaves) = of_turn t grant call.Touch turn o tells
call_kind s t killed grant (call.Map p) o new next (turn, row, tells, leaves) = of_turn t grant call.Map turn o tells
call_kind s t killed grant (call.Alloc p) o new next (turn, row, tells, leaves) = of_turn t grant call.Alloc turn o tells
call_kind s t killed grant (call.Punch p) o new next (turn, row, tells, leaves) = of_turn t grant call.Punch turn o tells
call_kind s t killed grant (call.Truncate p) o new next (turn, row, tells, leaves) =
    of_turn t grant call.Truncate turn o tells
call_kind s t killed grant (call.Unmap p) o new next (turn, row, tells, leaves) = of_turn t grant call.Unmap turn o tells
call_kind s t killed grant (call.Exit p) o new next (turn, row, tells, leaves) = of_turn t grant call.Exit turn o tells

step_kind : (t : ℕ) (grant : Bool) (s new : State) (dead : Bool) (c : Option Call) (Rows : Call → Type 0) (o : Outcome)
    → ((inflight : Call) → Rows inflight → IsOutcomeOf (Step t grant) o)
    → MatchBool dead (rows.Refuses NotAlive s o new) (MatchOption c (rows.Refuses Idle s o new) Rows)
    → IsOutcomeOf (Step t grant) o
step_kind t grant s new true c Rows o each row = of_kind (Step t grant) (outcome.Refused NotAlive) o row.0 tt
step_kind t grant s new false None Rows o each row = of_kind (Step t grant) (outcome.Refused Idle) o row.0 tt
step_kind t grant s new false (Some c) Rows o each row = each c row

-- what a call's step does to the state
abbrev Steps : State → State → (task : ℕ) → (grant : Bool) → Outcome → Call → Type 0
Steps s new t grant o c =
    (pool : Pool) × (next : Option Call) × rows.CallRow (pool_of s) t (is_killed (s.life t)) grant c o pool next
    × (new ≡ record (with_pool s pool) { life = rows.lives_after s.life t c next; calls = put s.calls t next })

steps_kind : (s new : State) (t : ℕ) (grant : Bool) (o : Outcome) (c : Call) → Steps s new t grant o c
    → IsOutcomeOf (Step t grant) o
steps_kind s new t grant o c step = call_kind (pool_of s) t (is_killed (s.life t)) grant c o step.0 step.1 step.2

-- a resize tells how many frames there are, or is refused
grown_kind : (n now : ℕ) (o : Outcome) → o ≡ outcome.Resized now → IsOutcomeOf (Resize n) o
grown_kind n now o is = of_kind (Resize n) (outcome.Resized now) o is tt

moved_kind : (n a b : ℕ) (o : Outcome) (more : Bool) (G H I J : Type 0)
    → MatchBool more (G × (o ≡ outcome.Resized a) × H) (I × (o ≡ outcome.Resized b) × J) → IsOutcomeOf (Resize n) o
moved_kind n a b o true G H I J row = grown_kind n a o row.1
moved_kind n a b o false G H I J row = grown_kind n b o row.1

sized_kind : (n : ℕ) (o : Outcome) (b : Bool) (R S : Type 0) → (R → IsOutcomeOf (Resize n) o)
    → MatchBool b R ((o ≡ outcome.Refused BadSize) × S) → IsOutcomeOf (Resize n) o
sized_kind n o true R S each row = each row
sized_kind n o false R S each row = of_kind (Resize n) (outcome.Refused BadSize) o row.0 tt

resize_kind : (n : ℕ) (s new : Pool) (o : Outcome) → ResizeRow s n o new → IsOutcomeOf (Resize n) o
unfolding ResizeRow
resize_kind n s new o row =
    sized_kind n o (is_size n) _ _ (λ grows. moved_kind n _ _ o (nat_lt (actives s) n) _ _ _ _ grows.1) row

-- each row is of its event's kind
pub row_kind : (s : CoreState) (event : Event) (o : Outcome) (new : CoreState) → Row s event o new → IsOutcomeOf event o
unfolding Row rows.BeginRow rows.StepRow rows.KillRow
row_kind s (Begin t op) o new row =
    begin_kind t op (as_state s) (record (as_state s) { calls = put (as_state s).calls t (Some (rows.first op)) }) (as_state new)
    (is_dead ((as_state s).life t)) (is_killed ((as_state s).life t) && not (rows.is_exit op)) ((as_state s).calls t) o row.0
row_kind s (Step t grant) o new row =
    step_kind t grant (as_state s) (as_state new) (is_dead ((as_state s).life t)) ((as_state s).calls t)
    (Steps (as_state s) (as_state new) t grant o) o (steps_kind (as_state s) (as_state new) t grant o) row.0
row_kind s (Kill t) o new row = kill_kind t _ _ _ _ o row.0
row_kind s (Resize n) o new row = resize_kind n _ row.0.0 o row.0.1

-- what isn't made is idle
pub idle_unmade : (o : Outcome) → is_made o ≡ false → IsIdle o
idle_unmade outcome.Begun e = absurd (cc)
idle_unmade (outcome.Moved p) e = absurd (cc)
idle_unmade (outcome.Blocked holder) e = tt
idle_unmade (outcome.Ended a) e = absurd (cc)
idle_unmade outcome.Marked e = absurd (cc)
idle_unmade (outcome.Resized frames) e = absurd (cc)
idle_unmade (outcome.Refused why) e = tt

-- what is idle isn't made
pub unmade_idle : (o : Outcome) → IsIdle o → is_made o ≡ false
unmade_idle outcome.Begun idle = absurd idle
unmade_idle (outcome.Moved p) idle = absurd idle
unmade_idle (outcome.Blocked holder) idle = refl
unmade_idle (outcome.Ended a) idle = absurd idle
unmade_idle outcome.Marked idle = absurd idle
unmade_idle (outcome.Resized frames) idle = absurd idle
unmade_idle (outcome.Refused why) idle = refl

-- what isn't idle is made
pub made : (o : Outcome) → (IsIdle o → ⊥) → is_made o ≡ true
made outcome.Begun busy = refl
made (outcome.Moved p) busy = refl
made (outcome.Blocked holder) busy = absurd (busy tt)
made (outcome.Ended a) busy = refl
made outcome.Marked busy = refl
made (outcome.Resized frames) busy = refl
made (outcome.Refused why) busy = absurd (busy tt)
