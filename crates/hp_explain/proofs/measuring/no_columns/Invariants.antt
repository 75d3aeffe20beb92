use Rattle.std.proofs.Common.{◌≡◌, ◌+◌, length}
use Rattle.hp_explain.proofs.measuring.no_columns.Given as goal

abbrev pub invariant-loop-task : goal.invariant-loop-task
invariant-loop-task l = length l.widths.items ≡ l._task + 1
