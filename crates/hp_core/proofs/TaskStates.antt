-- What one write to the task states does to the functions that the machine sees.
use Rattle.std.proofs.Common.{◌≡◌, ◌≢◌, ℕ, ◌-◌, ◌≤◌, List, length, get_or, refl, sym, ◌∙◌, ap, subst, arith, inl, inr}
use Rattle.std.proofs.Math.Path.{fun_ext}
use Rattle.std.proofs.Math.ListN.{get_or-eq_default}
use Rattle.std.specs.Prelude.{Bool, true, false, Option, Some, None, ◌==◌, MatchBool, MatchOption}
use Rattle.std.proofs.lemmas.Bool.{ne_eqb, cases_lt}
use Rattle.std.proofs.lemmas.Bool.Decides.{nat_tests}
use Rattle.std.proofs.lemmas.Grind.{common_steps}
use Rattle.std.proofs.lemmas.List.{get_or-set_same, get_or-set_other}
use Rattle.hp_base.specs.Numbers.{put}
use Rattle.hp_base.specs.declared.event.Op.{Op}
use Rattle.hp_base.proofs.Puts.{put_same, put_other, same_or_other}
use Rattle.hp_machine.specs.State.{is_killed, is_dead}
use Rattle.hp_machine.specs.Events.{StepRow, CallRow, first, lives_after}
use Rattle.hp_machine.specs.declared.call.Call.{Call}
use Rattle.hp_machine.specs.declared.call.Call.TheVariants as call
use Rattle.hp_machine.specs.declared.outcome.Life.TheVariants.{Killed}
use Rattle.hp_machine.specs.declared.outcome.Outcome.{Outcome}
use Rattle.hp_laws.proofs.Invariant.{put_known}
use Rattle.hp_parts.specs.State.{PartsState}
use Rattle.hp_parts.specs.View.{pool_of}
use Rattle.hp_core.specs.declared.task_state.TaskState.{TaskState}
use Rattle.hp_core.specs.State.{task_state_at, no_task_state, calls_of, lives_of, state_with}
use Rattle.hp_core.specs.TaskStates.{with_task_state, with_call, with_kill}
use Rattle.hp_core.specs.Turns.{life_after}

-- a task that isn't dead has a task state
pub seated : (task_states : List TaskState) (t : ℕ) → is_dead (task_state_at task_states t).life ≡ false
    → (1 ≤ t) × (t ≤ length task_states)
seated task_states t alive = elim (same_or_other t 0) [
  | inl e ↦ absurd (let d : is_dead (task_state_at task_states t).life ≡ true = ap (λ (k : ℕ). is_dead (task_state_at task_states k).life)
      e in let f : true ≡ false = sym d ∙ alive in cc)
  | inr h ↦ elim (cases_lt (t - 1) (length task_states)) [
    | inl l ↦ (omega (arith, h), omega (arith, h, l))
    | inr past ↦ absurd (let q : (t == 0) ≡ false = ne_eqb t 0 h in
        let none : get_or task_states (t - 1) no_task_state ≡ no_task_state = get_or-eq_default task_states no_task_state past in
        let d : task_state_at task_states t ≡ no_task_state = rw q none in
        let f : true ≡ false = sym (ap (λ (s : TaskState). is_dead s.life) d) ∙ alive in cc)
  ]
]

-- the task state that is written is what was written
pub at_task_state : (task_states : List TaskState) (t : ℕ) (y : TaskState) → 1 ≤ t → t ≤ length task_states
    → task_state_at (with_task_state task_states t y) t ≡ y
at_task_state task_states t y low high = grind (arith, common_steps, nat_tests, get_or-set_same)

-- each other task state is as it was
pub off_task_state : (task_states : List TaskState) (t : ℕ) (y : TaskState) (j : ℕ) → 1 ≤ t → j ≢ t
    → task_state_at (with_task_state task_states t y) j ≡ task_state_at task_states j
off_task_state task_states t y j low h = elim (same_or_other j 0) [
  | inl e ↦ rw e refl
  | inr d ↦ (let q : (j == 0) ≡ false = ne_eqb j 0 d in
      rw q (get_or-set_other task_states (t - 1) (j - 1) y no_task_state (λ e. h (omega arith))))
]

-- a part of one task state changes
seen_set : {B : Type 0} (v : TaskState → B) (task_states : List TaskState) (t : ℕ) (y : TaskState) → 1 ≤ t → t ≤ length task_states
    → ◌≡◌ {A = ℕ → B} (λ j. v (task_state_at (with_task_state task_states t y) j)) (put (λ j. v (task_state_at task_states j)) t (v y))
seen_set {B} v task_states t y low high = fun_ext (λ j. elim (same_or_other j t) [
  | inl e ↦ subst (λ (w : ℕ). v (task_state_at (with_task_state task_states t y) w)
      ≡ put (λ (k : ℕ). v (task_state_at task_states k)) t (v y) w)
      (sym e) (ap v (at_task_state task_states t y low high) ∙ sym (put_same (λ (k : ℕ). v (task_state_at task_states k)) t (v y)))
  | inr h ↦ ap v (off_task_state task_states t y j low h) ∙ sym (put_other (λ (k : ℕ). v (task_state_at task_states k)) t (v y) j h)
])

-- so the calls that the machine sees change at that task
pub calls_set : (task_states : List TaskState) (t : ℕ) (y : TaskState) → 1 ≤ t → t ≤ length task_states
    → calls_of (with_task_state task_states t y) ≡ put (calls_of task_states) t y.call
unfolding calls_of
calls_set task_states t y low high = seen_set (λ (s : TaskState). s.call) task_states t y low high

-- and the lives
pub lives_set : (task_states : List TaskState) (t : ℕ) (y : TaskState) → 1 ≤ t → t ≤ length task_states
    → lives_of (with_task_state task_states t y) ≡ put (lives_of task_states) t y.life
unfolding lives_of
lives_set task_states t y low high = seen_set (λ (s : TaskState). s.life) task_states t y low high

-- a write that keeps the task's life keeps all lives
pub lives_same : (task_states : List TaskState) (t : ℕ) (y : TaskState) → 1 ≤ t → t ≤ length task_states
    → y.life ≡ (task_state_at task_states t).life
    → lives_of (with_task_state task_states t y) ≡ lives_of task_states
unfolding lives_of
lives_same task_states t y low high same = lives_set task_states t y low high ∙ put_known (lives_of task_states) t y.life (sym same)

-- and one that keeps its call all calls
pub calls_same : (task_states : List TaskState) (t : ℕ) (y : TaskState) → 1 ≤ t → t ≤ length task_states
    → y.call ≡ (task_state_at task_states t).call
    → calls_of (with_task_state task_states t y) ≡ calls_of task_states
unfolding calls_of
calls_same task_states t y low high same = calls_set task_states t y low high ∙ put_known (calls_of task_states) t y.call (sym same)

-- what follows from a row by a test, from either case
pub by_test : {P Q X : Type 0} (b : Bool) → MatchBool b P Q → (b ≡ true → P → X) → (b ≡ false → Q → X) → X
by_test true m first second = first refl m
by_test false m first second = second refl m

-- and from one by an option
pub by_option : {A P X : Type 0} {Q : A → Type 0} (o : Option A) → MatchOption o P Q → (o ≡ None → P → X)
    → ((x : A) → o ≡ Some x → Q x → X) → X
by_option None m none some = none refl m
by_option (Some x) m none some = some x refl m

-- and where it is known which way
pub at_true : (P Q : Type 0) (b : Bool) → b ≡ true → P → MatchBool b P Q
at_true P Q b e p = subst (λ (c : Bool). MatchBool c P Q) (sym e) p

-- where the test fails
pub at_false : (P Q : Type 0) (b : Bool) → b ≡ false → Q → MatchBool b P Q
at_false P Q b e q = subst (λ (c : Bool). MatchBool c P Q) (sym e) q

-- so with an option: where it is empty
at_none : {A : Type 0} (P : Type 0) (Q : A → Type 0) (o : Option A) → o ≡ None → P → MatchOption o P Q
at_none {A} P Q o e p = subst (λ (c : Option A). MatchOption c P Q) (sym e) p

-- and where it has a value
pub at_some : {A : Type 0} (P : Type 0) (Q : A → Type 0) (o : Option A) (x : A) → o ≡ Some x → Q x → MatchOption o P Q
at_some {A} P Q o x e q = subst (λ (c : Option A). MatchOption c P Q) (sym e) q

-- a task state with a call, as the machine sees it
pub call_begun : (p : PartsState) (task_states : List TaskState) (t : ℕ) (op : Op) → is_dead (task_state_at task_states t).life ≡ false
    → state_with p (with_call task_states t op)
    ≡ record (state_with p task_states) { calls = put (calls_of task_states) t (Some (first op)) }
call_begun p task_states t op alive =
    let l = seated task_states t alive in
    let y : TaskState = record { life = (task_state_at task_states t).life; call = Some (first op) } in
    let lives = lives_same task_states t y l.0 l.1 refl in
    let calls = calls_set task_states t y l.0 l.1 in
    λ i. record (state_with p task_states) { life = lives i; calls = calls i }

-- and one that is killed
pub kill_marked : (p : PartsState) (task_states : List TaskState) (t : ℕ) → is_dead (task_state_at task_states t).life ≡ false
    → state_with p (with_kill task_states t) ≡ record (state_with p task_states) { life = put (lives_of task_states) t Killed }
kill_marked p task_states t alive =
    let l = seated task_states t alive in
    let y : TaskState = record { life = Killed; call = (task_state_at task_states t).call } in
    let life = lives_set task_states t y l.0 l.1 in
    let calls = calls_same task_states t y l.0 l.1 refl in
    λ i. record (state_with p task_states) { life = life i; calls = calls i }

-- how tasks live after a step of one of them
lives_step : (task_states : List TaskState) (t : ℕ) (y : TaskState) (inflight : Call) → 1 ≤ t → t ≤ length task_states
    → y.life ≡ life_after (task_state_at task_states t).life inflight y.call
    → lives_of (with_task_state task_states t y) ≡ lives_after (lives_of task_states) t inflight y.call
lives_step task_states t y (call.Touch p) low high e = lives_same task_states t y low high e
lives_step task_states t y (call.Map p) low high e = lives_same task_states t y low high e
lives_step task_states t y (call.Alloc p) low high e = lives_same task_states t y low high e
lives_step task_states t y (call.Punch p) low high e = lives_same task_states t y low high e
lives_step task_states t y (call.Truncate p) low high e = lives_same task_states t y low high e
lives_step task_states t y (call.Unmap p) low high e = lives_same task_states t y low high e
lives_step task_states t y (call.Exit p) low high e = by_end y.call e
  where
    by_end : (o : Option Call) → y.life ≡ life_after (task_state_at task_states t).life (call.Exit p) o
        → lives_of (with_task_state task_states t y) ≡ lives_after (lives_of task_states) t (call.Exit p) o
    by_end None d = lives_set task_states t y low high ∙ ap (put (lives_of task_states) t) d
    by_end (Some next) d = lives_same task_states t y low high d

-- a step of a task's call is one of the machine
pub step_row : (p n : PartsState) (task_states : List TaskState) (t : ℕ) (grant : Bool) (o : Outcome) (inflight : Call) (y : TaskState)
    → is_dead (task_state_at task_states t).life ≡ false → (task_state_at task_states t).call ≡ Some inflight
    → CallRow (pool_of p) t (is_killed (task_state_at task_states t).life) grant inflight o (pool_of n) y.call
    → y.life ≡ life_after (task_state_at task_states t).life inflight y.call
    → StepRow (state_with p task_states) t grant o (state_with n (with_task_state task_states t y))
unfolding StepRow lives_of calls_of
step_row p n task_states t grant o inflight y alive some row lives =
    let l = seated task_states t alive in
    let life = lives_step task_states t y inflight l.0 l.1 lives in
    let calls = calls_set task_states t y l.0 l.1 in
    at_false _ _ _ alive
    (at_some _ _ _ inflight some (pool_of n, y.call, row, λ i. record (state_with n task_states) { life = life i; calls = calls i }))
