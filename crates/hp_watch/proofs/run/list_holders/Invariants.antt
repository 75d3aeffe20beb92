use Rattle.std.proofs.Common.{◌≡◌, length}
use Rattle.hp_watch.specs.Holders.{AreHoldersOf}
use Rattle.hp_watch.proofs.run.list_holders.Given as goal

-- the holders of the tasks so far
abbrev pub invariant-loop-number : goal.invariant-loop-number
invariant-loop-number l = (length l.holders.items ≡ l.number) × AreHoldersOf l.core l.holders.items
