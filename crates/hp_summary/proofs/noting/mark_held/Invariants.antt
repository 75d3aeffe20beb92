use Rattle.hp_summary.proofs.Noted.{AreWaiting}
use Rattle.hp_summary.proofs.noting.mark_held.Given as goal

abbrev pub invariant-loop-place : goal.invariant-loop-place
invariant-loop-place l = AreWaiting l.core l.fn.held l.held l.tasks l.place
