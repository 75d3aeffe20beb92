use Rattle.std.proofs.Common.{◌≡◌}
use Rattle.hp_draw.specs.Waits.{waiting_tasks}
use Rattle.hp_draw.proofs.waits.list_waiting.Given as goal

-- for whom the tasks so far wait
abbrev pub invariant-loop-number : goal.invariant-loop-number
invariant-loop-number l = l.now.items ≡ waiting_tasks l.core l.at l.holders l.before l.number
