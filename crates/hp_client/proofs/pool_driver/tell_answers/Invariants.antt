use Rattle.std.proofs.Common.{◌≡◌, ◌≤◌, drop, take, length, vec_len, vec_capacity}
use Rattle.hp_client.specs.PoolRounds.{AreAnswers, FirstUnanswered}
use Rattle.hp_client.specs.declared.fault.ClientFault.{ClientFault}
use Rattle.hp_client.proofs.pool_driver.tell_answers.Given as goal

abbrev pub invariant-loop-call : goal.invariant-loop-call
invariant-loop-call g l = record {
  answers : AreAnswers (g.C.Team.members l.crew) (take l.call-index l.calls) l.answers.items;
  first : (why : ClientFault) → FirstUnanswered (g.C.Team.members l.crew) (drop l.call-index l.calls) why
      → FirstUnanswered (g.C.Team.members l.crew) l.calls why;
  each : vec_len l.answers ≡ l.call-index;
  room : length l.calls ≤ vec_capacity l.answers;
}
