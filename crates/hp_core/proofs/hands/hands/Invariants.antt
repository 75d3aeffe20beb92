use Rattle.std.specs.Prelude.{◌≡◌, filter_map, take}
use Rattle.hp_machine.specs.Views.{hand}
use Rattle.hp_core.proofs.hands.hands.Given as goal

abbrev pub invariant-loop-task_state : goal.invariant-loop-task_state
invariant-loop-task_state l = l.hands.items ≡ filter_map (λ task_state. hand task_state.call) (take l.task_state-index l.task_states)
