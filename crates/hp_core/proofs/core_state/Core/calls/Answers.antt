use Rattle.std.proofs.Common.{◌∙◌, ap, arith, List}
use Rattle.std.specs.Prelude.{count_by, is_some}
use Rattle.hp_core.specs.declared.task_state.TaskState.{TaskState}
use Rattle.hp_core.specs.State.{CoreState}
use Rattle.hp_core.specs.Readers.{calls_of}
use Rattle.std.proofs.lemmas.List.Sums.{count_by-le-length}
use Rattle.hp_core.specs.Sound.{IsSound}
use Rattle.hp_core.proofs.Reading.{few_task_states}
use Rattle.hp_core.proofs.Sums.{calls_are}
use Rattle.hp_core.proofs.core_state.Core.calls.Goals as goal

pub overflow_cast-result : goal.overflow_cast-result
overflow_cast-result c =
    let few = few_task_states _ c.self.invariant in
    let most = count_by-le-length (λ (task_state : TaskState). is_some task_state.call) c.deref.result.now in
    omega (arith, few, most, c.count_calls.ensures, c.deref.ensures.len)

pub returns : goal.returns
unfolding IsSound
returns c =
    c.count_calls.ensures
    ∙ (ap (λ (xs : List TaskState). count_by (λ task_state. is_some task_state.call) xs) c.deref.ensures.value
    ∙ (calls_are _ c.self.invariant.1 ∙ ap (λ (z : CoreState). calls_of z) c.self.view_is))
