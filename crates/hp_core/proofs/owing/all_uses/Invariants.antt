use Rattle.std.specs.Prelude.{◌≡◌, ◌≤◌, ◌*◌, ◌^◌, sum_by, take}
use Rattle.hp_machine.specs.Views.{used_ahead}
use Rattle.hp_core.proofs.owing.all_uses.Given as goal

abbrev pub invariant-loop-task_state : goal.invariant-loop-task_state
invariant-loop-task_state l = record {
  sum : l.all_uses ≡ sum_by (λ task_state. used_ahead task_state.call) (take l.task_state-index l.task_states);
  few : l.all_uses ≤ 2 ^ 33 * l.task_state-index;
}
