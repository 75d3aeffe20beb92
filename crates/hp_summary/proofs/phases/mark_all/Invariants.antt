use Rattle.hp_summary.proofs.Noted.{AreMarkedBelow}
use Rattle.hp_summary.proofs.phases.mark_all.Given as goal

abbrev pub invariant-loop-other : goal.invariant-loop-other
invariant-loop-other l = AreMarkedBelow l.phases l.fn.met l.met l.place l.other
