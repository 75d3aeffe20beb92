use Rattle.hp_shared.specs.Waking.{AreHeldUpIn}
use Rattle.hp_shared.proofs.waiting_room.free_in.Given as goal

abbrev pub invariant-loop-place : goal.invariant-loop-place
invariant-loop-place g l = AreHeldUpIn l.fn.from l.place l.pool.core l.stances
