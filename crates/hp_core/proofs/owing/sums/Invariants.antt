use Rattle.std.specs.Prelude.{◌≡◌, ◌≤◌, ◌*◌, ◌^◌, sum_by, take}
use Rattle.hp_machine.specs.Views.{behind, ahead}
use Rattle.hp_core.proofs.owing.sums.Given as goal

abbrev pub invariant-loop-task_state : goal.invariant-loop-task_state
invariant-loop-task_state l = record {
  behind : l.all_behind ≡ sum_by (λ task_state. behind task_state.call) (take l.task_state-index l.task_states);
  ahead : l.all_ahead ≡ sum_by (λ task_state. ahead task_state.call) (take l.task_state-index l.task_states);
  few_behind : l.all_behind ≤ 2 ^ 32 * l.task_state-index;
  few_ahead : l.all_ahead ≤ 2 ^ 32 * l.task_state-index;
}
