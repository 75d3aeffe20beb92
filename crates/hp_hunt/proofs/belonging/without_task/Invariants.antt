use Rattle.std.proofs.Common.{take}
use Rattle.hp_hunt.specs.Cutting.{IsSubsequence}
use Rattle.hp_hunt.proofs.belonging.without_task.Given as goal

abbrev pub invariant-loop-place : goal.invariant-loop-place
invariant-loop-place l = IsSubsequence l.left.items (take l.place l.events)
