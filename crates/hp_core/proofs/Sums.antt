-- The sums over all task states are those over all tasks.
use Rattle.std.proofs.Common.{◌≡◌, ℕ, zero, suc, ◌+◌, ◌-◌, ◌≤◌, List, length, get_or, refl, sym, ◌∙◌, ap, arith, add-one}
use Rattle.std.proofs.Common.{Option, Some, None, is_some, count_by, cond}
use Rattle.std.specs.Prelude.{◌==◌, false, sum_by, take, pos, ◌-ℤ◌}
use Rattle.std.proofs.lemmas.Bool.{ne_eqb}
use Rattle.std.proofs.lemmas.List.{take_all}
use Rattle.std.proofs.lemmas.List.Sums.{sum_by_more}
use Rattle.hp_base.specs.Numbers.{bit, total}
use Rattle.hp_base.proofs.Totals.{count_below-total, total_same}
use Rattle.hp_machine.specs.Views.{behind, ahead, used_ahead}
use Rattle.hp_machine.specs.Headline.{all_behind, all_ahead}
use Rattle.hp_machine.specs.declared.call.Call.{Call}
use Rattle.hp_core.specs.declared.task_state.TaskState.{TaskState}
use Rattle.hp_core.specs.Readers.{owed_of, used_owed_of}
use Rattle.hp_core.specs.Readers as readers
use Rattle.hp_core.specs.State.{CoreState, task_state_at, no_task_state, as_state, calls_of}
use Rattle.hp_core.specs.Sound.{IsKept, IsSound}

-- tasks are counted from 1, task states from 0
task_state_next : (xs : List TaskState) (k : ℕ) → task_state_at xs (suc k) ≡ get_or xs k no_task_state
task_state_next xs k =
    let q : (suc k == 0) ≡ false = ne_eqb (suc k) 0 (λ z. omega (arith, z)) in
    let back : suc k - 1 ≡ k = omega arith in
    rw q (ap (λ (n : ℕ). get_or xs n no_task_state) back)

-- of the first task states
sum_upto : (f : Option Call → ℕ) (xs : List TaskState) → f None ≡ 0 → (k : ℕ) → k ≤ length xs
    → sum_by (λ task_state. f task_state.call) (take k xs) ≡ total (suc k) (λ t. f (task_state_at xs t).call)
unfolding total
sum_upto f xs none zero l = omega (arith, none)
sum_upto f xs none (suc k) l =
    let before = sum_upto f xs none k (omega arith) in
    let next = sum_by_more (λ (task_state : TaskState). f task_state.call) xs k no_task_state (omega arith) in
    let same : take (suc k) xs ≡ take (k + 1) xs = ap (λ (n : ℕ). take n xs) (sym (add-one k)) in
    ap (λ (ys : List TaskState). sum_by (λ (task_state : TaskState). f task_state.call) ys) same
    ∙ (next ∙ (ap (λ (n : ℕ). n + f (get_or xs k no_task_state).call) before
    ∙ ap (λ (y : TaskState). total (suc k) (λ t. f (task_state_at xs t).call) + f y.call) (sym (task_state_next xs k))))

-- a sum over the task states is that over all tasks
pub sum_is : (f : Option Call → ℕ) (xs : List TaskState) (n : ℕ) → f None ≡ 0 → n ≡ length xs
    → sum_by (λ task_state. f task_state.call) xs ≡ total (n + 1) (λ t. f (calls_of xs t))
unfolding calls_of
sum_is f xs n none e =
    let all = sum_upto f xs none (length xs) (omega arith) in
    let whole : take (length xs) xs ≡ xs = take_all (length xs) xs (omega arith) in
    sym (ap (λ (ys : List TaskState). sum_by (λ (task_state : TaskState). f task_state.call) ys) whole)
    ∙ (all ∙ ap (λ (k : ℕ). total k (λ t. f (task_state_at xs t).call)) (omega (arith, e)))

-- so is what all calls owe to the used count
pub used_owed_is : (s : CoreState) (task_states : List TaskState) (n : ℕ) → IsSound s → task_states ≡ s.task_states
    → n ≡ sum_by (λ task_state. used_ahead task_state.call) task_states → pos n ≡ used_owed_of s
unfolding IsSound used_owed_of
used_owed_is s task_states n h e uses =
    let many : length s.parts.spaces ≡ length s.task_states = h.1.spaces ∙ sym h.1.task_states in
    ap (λ (k : ℕ). pos k) (uses ∙ (ap (λ (xs : List TaskState). sum_by (λ (task_state : TaskState). used_ahead task_state.call) xs) e
    ∙ sum_is used_ahead s.task_states _ refl many))

as_bit : (o : Option Call) → cond (is_some o) 1 0 ≡ bit (is_some o)
as_bit None = refl
as_bit (Some c) = refl

-- so are the calls in flight
pub calls_are : (s : CoreState) → IsKept s → count_by (λ task_state. is_some task_state.call) s.task_states ≡ readers.calls_of s
unfolding readers.calls_of
calls_are s kept =
    let many : length s.parts.spaces ≡ length s.task_states = kept.spaces ∙ sym kept.task_states in
    let tasks = length s.parts.spaces + 1 in
    sum_is (λ (o : Option Call). cond (is_some o) 1 0) s.task_states _ refl many
    ∙ (total_same tasks (λ t. bit (is_some ((as_state s).calls t))) (λ t. cond (is_some ((as_state s).calls t)) 1 0)
    (λ t within. as_bit ((as_state s).calls t))
    ∙ sym (count_below-total (λ t. is_some ((as_state s).calls t)) tasks))

-- so is what all calls owe
pub owed_is : (s : CoreState) (task_states : List TaskState) (a b : ℕ) → IsSound s → task_states ≡ s.task_states
    → b ≡ sum_by (λ task_state. behind task_state.call) task_states → a ≡ sum_by (λ task_state. ahead task_state.call) task_states
    → (pos a -ℤ pos b) ≡ owed_of s
unfolding IsSound owed_of
owed_is s task_states a b h e behinds aheads =
    let n : length s.parts.spaces ≡ length s.task_states = h.1.spaces ∙ sym h.1.task_states in
    let one : b ≡ all_behind (as_state s) =
    behinds ∙ (ap (λ (xs : List TaskState). sum_by (λ (task_state : TaskState). behind task_state.call) xs) e
    ∙ sum_is behind s.task_states _ refl n) in
    let two : a ≡ all_ahead (as_state s) =
    aheads ∙ (ap (λ (xs : List TaskState). sum_by (λ (task_state : TaskState). ahead task_state.call) xs) e
    ∙ sum_is ahead s.task_states _ refl n) in
    λ i. pos (two i) -ℤ pos (one i)
