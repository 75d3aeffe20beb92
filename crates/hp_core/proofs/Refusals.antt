-- Which events are refused: the one test of the code, and the rows of the machine.
use Rattle.std.proofs.Common.{◌≡◌, ℕ, ◌-◌, ◌≤◌, List, refl, sym, ap, subst, ◌∙◌, arith}
use Rattle.std.specs.Prelude.{Bool, true, false, not, ◌&&◌, Option, Some, None, IsSome, IfSome, Result, Ok, Err, IfOk}
use Rattle.std.specs.Prelude.{MatchBool, MatchOption, nat_lt, if◌then◌else◌}
use Rattle.std.specs.declared.alloc.AllocError.{AllocError}
use Rattle.std.proofs.lemmas.Bool.Decides.{nat_tests}
use Rattle.hp_base.specs.declared.event.Op.{Op}
use Rattle.hp_base.specs.declared.event.Event.{Event}
use Rattle.hp_base.specs.declared.event.Event.TheVariants.{Begin, Step, Kill, Resize}
use Rattle.hp_machine.specs.State.{Pool, State, actives, is_alive, is_dead, is_killed, pool_of as pool_in}
use Rattle.hp_machine.specs.Events as rows
use Rattle.hp_machine.specs.Resizes.{ResizeRow, is_size, surplus}
use Rattle.hp_machine.specs.declared.call.Call.{Call}
use Rattle.hp_machine.specs.declared.outcome.Life.{Life}
use Rattle.hp_machine.specs.declared.outcome.Life.TheVariants.{Alive, Killed, Dead}
use Rattle.hp_machine.specs.declared.outcome.Outcome.{Outcome}
use Rattle.hp_machine.specs.declared.outcome.Outcome.TheVariants as outcome
use Rattle.hp_machine.specs.declared.outcome.Refusal.{Refusal}
use Rattle.hp_machine.specs.declared.outcome.Refusal.TheVariants.{NotAlive, InCall, Idle, BadSize}
use Rattle.hp_laws.proofs.Deciding.{some_same}
use Rattle.hp_parts.specs.State.{PartsState}
use Rattle.hp_parts.specs.View.{pool_of}
use Rattle.hp_core.specs.declared.task_state.TaskState.{TaskState}
use Rattle.hp_core.specs.State.{task_state_at, state_with, calls_of, lives_of}
use Rattle.hp_core.specs.Refusals.{refusal_beside, idle_unless, refusal_of}
use Rattle.hp_core.specs.TaskStates.{HasTaskState, StepTaskStates, AdmittedTaskStates, EventTaskStates, with_call, with_kill}
use Rattle.hp_core.proofs.TaskStates.{seated, call_begun, kill_marked, step_row, by_test, by_option}

-- nothing is something
pub never : {A X : Type 0} (x : A) → ◌≡◌ {A = Option A} (Some x) None → X
never {A} x e = (let d : ◌≡◌ {A = Option A} (Some x) None = e in absurd (cc))

-- the same refusal is told
tells : (s : State) (a b : Refusal) → ◌≡◌ {A = Option Refusal} (Some a) (Some b) → rows.Refuses a s (outcome.Refused b) s
tells s a b e = (ap (λ (r : Refusal). outcome.Refused r) (sym (some_same e)), refl)

-- a begin that is refused, by its tests
begin_refused : (s begun : State) (dead killed : Bool) (c : Option Call) (why : Refusal)
    → (if dead then Some NotAlive else refusal_beside c killed) ≡ Some why
    → MatchBool dead (rows.Refuses NotAlive s (outcome.Refused why) s)
    (MatchOption c (MatchBool killed (rows.Refuses NotAlive s (outcome.Refused why) s)
    (rows.Tells outcome.Begun begun (outcome.Refused why) s)) (λ (inflight : Call). rows.Refuses InCall s (outcome.Refused why) s))
begin_refused s begun true killed c why e = tells s NotAlive why e
begin_refused s begun false killed (Some c) why e = tells s InCall why e
begin_refused s begun false true None why e = tells s NotAlive why e
begin_refused s begun false false None why e = (let d : ◌≡◌ {A = Option Refusal} None (Some why) = e in absurd (cc))

-- and one that isn't has begun
pub begin_admitted : (s begun new : State) (dead killed : Bool) (c : Option Call) (told : Outcome)
    → (if dead then Some NotAlive else refusal_beside c killed) ≡ None
    → MatchBool dead (rows.Refuses NotAlive s told new)
    (MatchOption c (MatchBool killed (rows.Refuses NotAlive s told new) (rows.Tells outcome.Begun begun told new))
    (λ (inflight : Call). rows.Refuses InCall s told new)) → told ≡ outcome.Begun
begin_admitted s begun new true killed c told e row = never NotAlive e
begin_admitted s begun new false killed (Some c) told e row = never InCall e
begin_admitted s begun new false true None told e row = never NotAlive e
begin_admitted s begun new false false None told e row = row.0

-- so with a kill
kill_refused : (s marked : State) (alive : Bool) (why : Refusal) → (if alive then None else Some NotAlive) ≡ Some why
    → MatchBool alive (rows.Tells outcome.Marked marked (outcome.Refused why) s) (rows.Refuses NotAlive s (outcome.Refused why) s)
kill_refused s marked true why e = (let d : ◌≡◌ {A = Option Refusal} None (Some why) = e in absurd (cc))
kill_refused s marked false why e = tells s NotAlive why e

pub kill_admitted : (s marked new : State) (alive : Bool) (told : Outcome)
    → ◌≡◌ {A = Option Refusal} (if alive then None else Some NotAlive) None
    → MatchBool alive (rows.Tells outcome.Marked marked told new) (rows.Refuses NotAlive s told new) → told ≡ outcome.Marked
kill_admitted s marked new true told e row = row.0
kill_admitted s marked new false told e row = never NotAlive e

-- a step that is refused, by its tests
step_refused : (s : State) (dead : Bool) (c : Option Call) (Rows : Call → Type 0) (why : Refusal)
    → (if dead then Some NotAlive else idle_unless c) ≡ Some why
    → MatchBool dead (rows.Refuses NotAlive s (outcome.Refused why) s) (MatchOption c (rows.Refuses Idle s (outcome.Refused why) s) Rows)
step_refused s true c Rows why e = tells s NotAlive why e
step_refused s false None Rows why e = tells s Idle why e
step_refused s false (Some c) Rows why e = (let d : ◌≡◌ {A = Option Refusal} None (Some why) = e in absurd (cc))

-- and one that isn't is one of a call
pub step_admitted : (s new : State) (dead : Bool) (c : Option Call) (Rows : Call → Type 0) (told : Outcome)
    → (if dead then Some NotAlive else idle_unless c) ≡ None
    → MatchBool dead (rows.Refuses NotAlive s told new) (MatchOption c (rows.Refuses Idle s told new) Rows)
    → (inflight : Call) × Rows inflight
step_admitted s new true c Rows told e row = never NotAlive e
step_admitted s new false None Rows told e row = never Idle e
step_admitted s new false (Some c) Rows told e row = (c, row)

-- a resize that isn't refused tells how many frames there are
pub resize_admitted : (p new : Pool) (n : ℕ) (told : Outcome) → (if is_size n then None else Some BadSize) ≡ None
    → ResizeRow p n told new → (m : ℕ) × (told ≡ outcome.Resized m)
unfolding ResizeRow
resize_admitted p new n told e row = by_test (is_size n) row
    (λ is r. by_test (nat_lt (actives p) n) r.1 (λ more q. (n, q.1)) (λ fewer q. (actives p - surplus p n, q.1)))
    (λ isnt r. never BadSize (sym (ap (λ (b : Bool). if b then None else Some BadSize) isnt) ∙ e))

-- a refused event may do nothing
pub refused_is : (p : PartsState) (task_states : List TaskState) (event : Event) (why : Refusal) → refusal_of task_states event ≡ Some why
    → rows.Row (state_with p task_states) event (outcome.Refused why) (state_with p task_states)
unfolding rows.BeginRow rows.StepRow rows.KillRow ResizeRow lives_of calls_of
refused_is p task_states (Begin t op) why e = begin_refused (state_with p task_states) _ _ _ _ why e
refused_is p task_states (Step t grant) why e = step_refused (state_with p task_states) _ _ _ why e
refused_is p task_states (Kill t) why e = kill_refused (state_with p task_states) _ _ why e
refused_is p task_states (Resize n) why e = (pool_in (state_with p task_states), by_size _ (is_size n) e, refl)
  where
    by_size : (Resizes : Type 0) (b : Bool) → ◌≡◌ {A = Option Refusal} (if b then None else Some BadSize) (Some why)
        → MatchBool b Resizes
        ((outcome.Refused why ≡ outcome.Refused BadSize) × (pool_in (state_with p task_states) ≡ pool_in (state_with p task_states)))
    by_size Resizes true d = (let z : ◌≡◌ {A = Option Refusal} None (Some why) = d in absurd (cc))
    by_size Resizes false d = (ap (λ (r : Refusal). outcome.Refused r) (sym (some_same d)), refl)

-- a task whose begin or step isn't refused isn't dead
lives : (dead : Bool) (r : Option Refusal) → (if dead then Some NotAlive else r) ≡ None → dead ≡ false
lives true r e = never NotAlive e
lives false r e = refl

-- nor one whose kill isn't
kill_lives : (l : Life) → ◌≡◌ {A = Option Refusal} (if is_alive l then None else Some NotAlive) None → is_dead l ≡ false
kill_lives Alive e = refl
kill_lives Killed e = never NotAlive e
kill_lives Dead e = never NotAlive e

begin_alive : (task_states : List TaskState) (t : ℕ) (op : Op) → refusal_of task_states (Begin t op) ≡ None
    → is_dead (task_state_at task_states t).life ≡ false
begin_alive task_states t op e = lives (is_dead (task_state_at task_states t).life)
    (refusal_beside (task_state_at task_states t).call (is_killed (task_state_at task_states t).life && not (rows.is_exit op))) e

step_alive : (task_states : List TaskState) (t : ℕ) (grant : Bool) → refusal_of task_states (Step t grant) ≡ None
    → is_dead (task_state_at task_states t).life ≡ false
step_alive task_states t grant e = lives (is_dead (task_state_at task_states t).life) (idle_unless (task_state_at task_states t).call) e

-- so it has a task state
pub begin_there : (task_states : List TaskState) (t : ℕ) (op : Op) → refusal_of task_states (Begin t op) ≡ None → HasTaskState task_states t
begin_there task_states t op e = seated task_states t (begin_alive task_states t op e)

pub step_there : (task_states : List TaskState) (t : ℕ) (grant : Bool) → refusal_of task_states (Step t grant) ≡ None
    → HasTaskState task_states t
step_there task_states t grant e = seated task_states t (step_alive task_states t grant e)

pub kill_there : (task_states : List TaskState) (t : ℕ) → refusal_of task_states (Kill t) ≡ None → HasTaskState task_states t
kill_there task_states t e = seated task_states t (kill_lives (task_state_at task_states t).life e)

-- a step that isn't refused is one of a call
pub not_idle : {X : Type 0} (dead : Bool) (o : Option Call) → (if dead then Some NotAlive else idle_unless o) ≡ None → o ≡ None → X
not_idle true o e none = never NotAlive e
not_idle false None e none = never Idle e
not_idle false (Some c) e none = (let z : ◌≡◌ {A = Option Call} (Some c) None = none in absurd (cc))

pub step_called : (task_states : List TaskState) (t : ℕ) (grant : Bool) → refusal_of task_states (Step t grant) ≡ None
    → IsSome (task_state_at task_states t).call
step_called task_states t grant e = called (is_dead (task_state_at task_states t).life) (task_state_at task_states t).call e
  where
    called : (dead : Bool) (o : Option Call) → (if dead then Some NotAlive else idle_unless o) ≡ None → IsSome o
    called true o d = never NotAlive d
    called false None d = never Idle d
    called false (Some c) d = refl

-- a pool may have as many frames as a resize asks for that isn't refused
pub resize_fits : (task_states : List TaskState) (n : ℕ) → refusal_of task_states (Resize n) ≡ None → (1 ≤ n) × (n ≤ 4096)
resize_fits task_states n e = within n (sized (is_size n) e)
  where
    sized : (b : Bool) → ◌≡◌ {A = Option Refusal} (if b then None else Some BadSize) None → b ≡ true
    sized true d = refl
    sized false d = never BadSize d

    within : (k : ℕ) → is_size k ≡ true → (1 ≤ k) × (k ≤ 4096)
    within k d = (grind (arith, nat_tests, d), grind (arith, nat_tests, d))

-- a begin that isn't refused is a row of the machine
begin_row : (p : PartsState) (task_states : List TaskState) (t : ℕ) (op : Op) → refusal_of task_states (Begin t op) ≡ None
    → rows.BeginRow (state_with p task_states) t op outcome.Begun (state_with p (with_call task_states t op))
unfolding rows.BeginRow lives_of calls_of
begin_row p task_states t op e =
    goes (is_dead (task_state_at task_states t).life) (is_killed (task_state_at task_states t).life && not (rows.is_exit op))
    (task_state_at task_states t).call (state_with p task_states) _ _ e (call_begun p task_states t op (begin_alive task_states t op e))
  where
    goes : (dead killed : Bool) (c : Option Call) (s after new : State)
        → (if dead then Some NotAlive else refusal_beside c killed) ≡ None → new ≡ after
        → MatchBool dead (rows.Refuses NotAlive s outcome.Begun new)
        (MatchOption c (MatchBool killed (rows.Refuses NotAlive s outcome.Begun new) (rows.Tells outcome.Begun after outcome.Begun new))
        (λ (inflight : Call). rows.Refuses InCall s outcome.Begun new))
    goes true killed c s after new d same = never NotAlive d
    goes false killed (Some c) s after new d same = never InCall d
    goes false true None s after new d same = never NotAlive d
    goes false false None s after new d same = (refl, same)

-- so is a kill
kill_row : (p : PartsState) (task_states : List TaskState) (t : ℕ) → refusal_of task_states (Kill t) ≡ None
    → rows.KillRow (state_with p task_states) t outcome.Marked (state_with p (with_kill task_states t))
unfolding rows.KillRow lives_of
kill_row p task_states t e =
    goes (is_alive (task_state_at task_states t).life) (state_with p task_states) _ _ e
    (kill_marked p task_states t (kill_lives (task_state_at task_states t).life e))
  where
    goes : (alive : Bool) (s after new : State) → ◌≡◌ {A = Option Refusal} (if alive then None else Some NotAlive) None → new ≡ after
        → MatchBool alive (rows.Tells outcome.Marked after outcome.Marked new) (rows.Refuses NotAlive s outcome.Marked new)
    goes true s after new d same = (refl, same)
    goes false s after new d same = never NotAlive d

-- what holds where there is a value, from either case
pub by_some : {A X : Type 0} {P : A → Type 0} (o : Option A) → IfSome o P → (o ≡ None → X) → ((x : A) → o ≡ Some x → P x → X) → X
by_some None h none some = none refl
by_some (Some x) h none some = some x refl h

-- and a step
step_is : (p after : PartsState) (task_states new : List TaskState) (t : ℕ) (grant : Bool) (o : Outcome)
    → refusal_of task_states (Step t grant) ≡ None → StepTaskStates p task_states t grant o after new
    → rows.StepRow (state_with p task_states) t grant o (state_with after new)
unfolding StepTaskStates
step_is p after task_states new t grant o e row =
    by_some (task_state_at task_states t).call row
    (not_idle (is_dead (task_state_at task_states t).life) (task_state_at task_states t).call e)
    (λ inflight some r. subst (λ (ss : List TaskState). rows.StepRow (state_with p task_states) t grant o (state_with after ss)) (sym r.3)
    (step_row p after task_states t grant o inflight r.0 (step_alive task_states t grant e) some r.1 r.2))

-- a row, with its outcome and the state that it leads to said otherwise
said : (p after : PartsState) (task_states new ends : List TaskState) (event : Event) (o wanted : Outcome)
    → o ≡ wanted → after ≡ p → new ≡ ends → rows.Row (state_with p task_states) event wanted (state_with p ends)
    → rows.Row (state_with p task_states) event o (state_with after new)
said p after task_states new ends event o wanted tells same is row =
    subst (λ (q : PartsState). rows.Row (state_with p task_states) event o (state_with q new)) (sym same)
    (subst (λ (ss : List TaskState). rows.Row (state_with p task_states) event o (state_with p ss)) (sym is)
    (subst (λ (u : Outcome). rows.Row (state_with p task_states) event u (state_with p ends)) (sym tells) row))

-- what an event that isn't refused makes of the parts and the task states is a row of the machine
admitted_is : (p after : PartsState) (task_states new : List TaskState) (event : Event) (o : Outcome)
    → refusal_of task_states event ≡ None → AdmittedTaskStates p task_states event o after new
    → rows.Row (state_with p task_states) event o (state_with after new)
unfolding AdmittedTaskStates
admitted_is p after task_states new (Begin t op) o e r =
    said p after task_states new (with_call task_states t op) (Begin t op) o outcome.Begun r.0 r.1 r.2 (begin_row p task_states t op e)
admitted_is p after task_states new (Step t grant) o e r = step_is p after task_states new t grant o e r
admitted_is p after task_states new (Kill t) o e r =
    said p after task_states new (with_kill task_states t) (Kill t) o outcome.Marked r.0 r.1 r.2 (kill_row p task_states t e)
admitted_is p after task_states new (Resize n) o e r = (pool_of after, r.0, ap (λ (ss : List TaskState). state_with after ss) r.1)

-- so is what any event makes of them
pub event_is : (p after : PartsState) (task_states new : List TaskState) (event : Event) (o : Outcome)
    → EventTaskStates p task_states event o after new → rows.Row (state_with p task_states) event o (state_with after new)
unfolding EventTaskStates
event_is p after task_states new event o row =
    by_option (refusal_of task_states event) row
    (λ none r. admitted_is p after task_states new event o none r)
    (λ why some r. said p after task_states new task_states event o (outcome.Refused why) r.0 r.1 r.2
    (refused_is p task_states event why some))

-- what the code does of a refused event
pub refused_event : (p : PartsState) (task_states : List TaskState) (event : Event) (why : Refusal)
    → refusal_of task_states event ≡ Some why
    → EventTaskStates p task_states event (outcome.Refused why) p task_states
unfolding EventTaskStates
refused_event p task_states event why e =
    subst (λ (r : Option Refusal). MatchOption r (AdmittedTaskStates p task_states event (outcome.Refused why) p task_states)
    (λ w. (outcome.Refused why ≡ outcome.Refused w) × (p ≡ p) × (task_states ≡ task_states))) (sym e) (refl, refl, refl)

-- and of another
pub admitted_event : (p after : PartsState) (task_states new : List TaskState) (event : Event) (result : Result Outcome AllocError)
    → refusal_of task_states event ≡ None → IfOk result (λ o. AdmittedTaskStates p task_states event o after new)
    → IfOk result (λ o. EventTaskStates p task_states event o after new)
unfolding EventTaskStates
admitted_event p after task_states new event (Err x) e row = tt
admitted_event p after task_states new event (Ok o) e row =
    subst (λ (r : Option Refusal). MatchOption r (AdmittedTaskStates p task_states event o after new)
    (λ w. (o ≡ outcome.Refused w) × (after ≡ p) × (new ≡ task_states))) (sym e) row
