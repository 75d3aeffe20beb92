use Rattle.std.proofs.Common.{◌≡◌, ◌++◌}
use Rattle.std.specs.Prelude.{string_bytes}
use Rattle.hp_explain.specs.JsonObjects.{tasks_objects}
use Rattle.hp_explain.proofs.json_end.push_tasks.Given as goal

-- the objects of the tasks so far
abbrev pub invariant-loop-task : goal.invariant-loop-task
invariant-loop-task l = string_bytes l.text ≡ string_bytes l.fn.text ++ tasks_objects l.core l.task
