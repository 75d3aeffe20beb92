use Rattle.std.proofs.Common.{◌≡◌, ◌+◌}
use Rattle.std.specs.Prelude.{None, replicate}
use Rattle.hp_draw.proofs.sketch.no_open_stays.Given as goal

abbrev pub invariant-loop-task : goal.invariant-loop-task
invariant-loop-task l = l.open_stays.items ≡ replicate (l._task + 1) None
