use Rattle.std.proofs.Common.{◌≡◌, ◌++◌}
use Rattle.hp_draw.specs.Waits.{waits_left}
use Rattle.hp_draw.proofs.waits.add_waits_left.Given as goal

-- the waits of the tasks so far
abbrev pub invariant-loop-place : goal.invariant-loop-place
invariant-loop-place l = l.waits.items ≡ l.fn.waits.items ++ waits_left l.at l.before l.now l.place
