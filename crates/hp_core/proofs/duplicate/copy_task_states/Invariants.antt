use Rattle.std.specs.Prelude.{◌≡◌, take}
use Rattle.hp_core.proofs.duplicate.copy_task_states.Given as goal

abbrev pub invariant-loop-task_state : goal.invariant-loop-task_state
invariant-loop-task_state l = l.copies.items ≡ take l.task_state-index l.task_states
