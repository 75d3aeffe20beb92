use Rattle.std.proofs.Common.{ℕ}
use Rattle.hp_core.specs.State.{as_state}
use Rattle.hp_laws.specs.StepsLeft.{left_to_all}
use Rattle.hp_client.specs.Rounds.{Turns, AreAll, AreInFlight, AreOfDistinctTasks}
use Rattle.hp_client.proofs.rounds.take_turns.Given as goal

abbrev pub invariant-turns : goal.invariant-turns
invariant-turns l = record {
  made : (turns : ℕ) × Turns turns l.fn.core l.initial.asked l.core l.asked;
  apart : AreOfDistinctTasks l.asked;
  in_flight : AreInFlight l.core l.asked;
  all : AreAll l.fn.core l.initial.asked → AreAll l.core l.asked;
}

abbrev pub decreases-turns : goal.decreases-turns
decreases-turns l = left_to_all (as_state l.core)
