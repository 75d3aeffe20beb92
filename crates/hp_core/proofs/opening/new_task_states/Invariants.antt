use Rattle.std.specs.Prelude.{◌≡◌, All, length}
use Rattle.hp_core.specs.Opening.{IsVacant}
use Rattle.hp_core.proofs.opening.new_task_states.Given as goal

abbrev pub invariant-loop : goal.invariant-loop
invariant-loop l = record {
  long : length l.task_states.items ≡ l.counter;
  fresh : All IsVacant l.task_states.items;
}
