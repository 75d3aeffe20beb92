use Rattle.std.proofs.Common.{◌≡◌, ◌++◌}
use Rattle.std.specs.Prelude.{string_bytes}
use Rattle.hp_explain.specs.Waits.{changes_text}
use Rattle.hp_explain.proofs.waits.push_changes.Given as goal

-- what is told of the tasks so far
abbrev pub invariant-loop-number : goal.invariant-loop-number
invariant-loop-number l = string_bytes l.row ≡ string_bytes l.fn.row ++ changes_text l.compact l.core l.before l.after l.number
