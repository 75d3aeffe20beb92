use Rattle.std.proofs.Common.{◌≡◌, ◌++◌}
use Rattle.std.specs.Prelude.{string_bytes}
use Rattle.hp_replay.specs.Outcomes.{tasks_text}
use Rattle.hp_replay.proofs.state.push_tasks.Given as goal

-- the lines of the tasks so far
abbrev pub invariant-loop-task : goal.invariant-loop-task
invariant-loop-task l = string_bytes l.text ≡ string_bytes l.fn.text ++ tasks_text l.core l.task
