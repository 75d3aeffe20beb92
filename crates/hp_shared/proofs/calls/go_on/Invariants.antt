use Rattle.std.proofs.Common.{◌≡◌}
use Rattle.hp_shared.specs.Calls.{Gained, AllMoved, AreAnswered, phase_of}
use Rattle.hp_shared.proofs.calls.go_on.Given as goal

abbrev pub invariant-steps : goal.invariant-steps
invariant-steps g l = record {
  seat : l.seat.task ≡ l.fn.seat.task;
  task : l.task ≡ l.fn.seat.task;
  earlier : l.seat.earlier ≡ l.fn.seat.earlier;
  moved : Gained l.fn.seat.list l.seat.list (AllMoved l.fn.seat.task);
  answered : Gained l.fn.seat.list l.seat.list (AreAnswered (g.G.Gate.may_answer l.gate) (phase_of l.fn.seat.list));
}
