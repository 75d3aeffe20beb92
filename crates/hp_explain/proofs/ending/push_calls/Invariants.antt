use Rattle.std.proofs.Common.{◌≡◌, ◌++◌}
use Rattle.std.specs.Prelude.{string_bytes}
use Rattle.hp_explain.specs.Rows.{calls_text}
use Rattle.hp_explain.proofs.ending.push_calls.Given as goal

-- the lines of the calls so far
abbrev pub invariant-loop-task : goal.invariant-loop-task
invariant-loop-task l = string_bytes l.text ≡ string_bytes l.fn.text ++ calls_text l.core l.task
