use Rattle.std.proofs.Common.{◌-◌, length}
use Rattle.hp_text.proofs.Counting.{Finding}
use Rattle.hp_text.proofs.needs.needs_at.Given as goal

abbrev pub invariant-loop-next : goal.invariant-loop-next
invariant-loop-next l = Finding l.waits l.call l.counts l.next l.needs.items

abbrev pub decreases-loop-next : goal.decreases-loop-next
decreases-loop-next l = length l.waits - l.next
