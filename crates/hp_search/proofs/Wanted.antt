-- A step wants memory where its task's call does.
use Rattle.std.proofs.Common.{◌≡◌, ◌∙◌, ◌≤◌, ◌<◌, ℕ, ap, sym, subst, arith, List, length}
use Rattle.std.specs.Prelude.{◌↔◌, ◌-◌, ◌==◌, Bool, false, Option, Some, IsSomeAnd, IsTrue, slice_index_or, if◌then◌else◌}
use Rattle.std.proofs.lemmas.Bool.Decides.{nat_tests}
use Rattle.std.proofs.lemmas.List.{get_or_default}
use Rattle.hp_machine.specs.Wants.{Wants}
use Rattle.hp_machine.specs.declared.call.Call.{Call}
use Rattle.hp_parts.specs.State.{PartsState}
use Rattle.hp_parts.specs.View.{pool_of}
use Rattle.hp_core.specs.Runs.{StepWants}
use Rattle.hp_core.specs.State.{no_task_state, task_state_at}
use Rattle.hp_every.specs.Private.{IsPrivate, StepIsPrivate}
use Rattle.hp_core.specs.declared.task_state.TaskState.{TaskState}

not_zero : (t : ℕ) → 1 ≤ t → (t == 0) ≡ false
not_zero t some = grind (arith, nat_tests)

state_is : (states : List TaskState) (t : ℕ) (d : TaskState) → 1 ≤ t → t - 1 < length states
    → task_state_at states t ≡ slice_index_or states (t - 1) d
state_is states t d some within =
    ap (λ (b : Bool). if b then no_task_state else slice_index_or states (t - 1) no_task_state) (not_zero t some)
    ∙ get_or_default states (t - 1) no_task_state d within

-- what is so of the task's call is so of a call that it has
pub step_at : (Q : Call → Type 0) (states : List TaskState) (t place : ℕ) (d : TaskState) (c : Call) (test : Bool) → 1 ≤ t → place ≡ t - 1
    → place < length states → (slice_index_or states place d).call ≡ Some c → (IsTrue test ↔ Q c)
    → (IsTrue test ↔ IsSomeAnd (task_state_at states t).call Q)
step_at Q states t place d c test some at within is both =
    let same : (task_state_at states t).call ≡ Some c =
    ap (λ (s : TaskState). s.call) (state_is states t d some (subst (λ (k : ℕ). k < length states) at within)
    ∙ ap (λ (k : ℕ). slice_index_or states k d) (sym at)) ∙ is in
    let In : Option Call → Type 0 = λ o. IsSomeAnd o Q in
    (λ yes. subst In (sym same) (both.0 yes), λ step. both.1 (subst In same step))

pub wants_at : (p : PartsState) (states : List TaskState) (t place : ℕ) (d : TaskState) (c : Call) (wants : Bool) → 1 ≤ t → place ≡ t - 1
    → place < length states → (slice_index_or states place d).call ≡ Some c → (IsTrue wants ↔ Wants (pool_of p) t c)
    → (IsTrue wants ↔ StepWants p states t)
wants_at p states t place d c wants some at within is both =
    step_at (λ call. Wants (pool_of p) t call) states t place d c wants some at within is both

pub private_at : (p : PartsState) (states : List TaskState) (t place : ℕ) (d : TaskState) (c : Call) (test : Bool) → 1 ≤ t → place ≡ t - 1
    → place < length states → (slice_index_or states place d).call ≡ Some c → (IsTrue test ↔ IsPrivate (pool_of p) t c)
    → (IsTrue test ↔ StepIsPrivate p states t)
private_at p states t place d c test some at within is both =
    step_at (λ call. IsPrivate (pool_of p) t call) states t place d c test some at within is both
