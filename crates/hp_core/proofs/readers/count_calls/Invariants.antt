use Rattle.std.specs.Prelude.{◌≡◌, count_by, is_some, take}
use Rattle.hp_core.proofs.readers.count_calls.Given as goal

abbrev pub invariant-loop-task_state : goal.invariant-loop-task_state
invariant-loop-task_state l = l.calls ≡ count_by (λ task_state. is_some task_state.call) (take l.task_state-index l.task_states)
