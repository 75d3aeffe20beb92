use Rattle.std.proofs.Common.{◌≡◌, ◌+◌, ◌≤◌, false, take, drop}
use Rattle.hp_base.specs.Numbers.{bit}
use Rattle.hp_core.specs.State.{as_state}
use Rattle.hp_laws.specs.StepsLeft.{left_to_all}
use Rattle.hp_client.specs.Rounds.{Turn, AreAll, AreBlocked, AreInFlight, AreOfDistinctTasks}
use Rattle.hp_client.proofs.rounds.turn.Given as goal

abbrev pub invariant-loop-call : goal.invariant-loop-call
invariant-loop-call l = record {
  made : Turn l.fn.core (take l.call-index l.initial.asked) l.core (take l.call-index l.asked);
  others : drop l.call-index l.asked ≡ drop l.call-index l.initial.asked;
  blocked : l.moved ≡ false → AreBlocked l.fn.core (take l.call-index l.initial.asked) l.core;
  nearer : left_to_all (as_state l.core) + bit l.moved ≤ left_to_all (as_state l.fn.core);
  apart : AreOfDistinctTasks l.asked;
  in_flight : AreInFlight l.core l.asked;
  all : AreAll l.fn.core l.initial.asked → AreAll l.core l.asked;
}
