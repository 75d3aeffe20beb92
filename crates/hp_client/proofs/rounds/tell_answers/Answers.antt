use Rattle.std.proofs.Common.{arith}
use Rattle.std.proofs.lemmas.Grind.{common_steps}
use Rattle.hp_client.proofs.Running.{ended_next, ended_all, ended_long, told_long}
use Rattle.hp_client.proofs.rounds.tell_answers.Goals as goal

pub push_reserved-requires : goal.push_reserved-requires
push_reserved-requires c =
    let long = told_long c.loop-call.call-index c.args.asked.now c.loop-call.answers.items c.loop-call-test.true
    c.loop-call.invariant.answers in
    let within = c.loop-call-test.true in
    let room = c.loop-call.invariant.room in
    grind (arith, common_steps)

pub loop-call-preserved : goal.loop-call-preserved
loop-call-preserved c = record {
  answers = ended_next c.loop-call.call-index c.args.asked.now c.loop-call.answers.items _ c.call-item.result c.in-Some.answer
      c.loop-call-test.true c.call-item.is c.in-Some.is c.push_reserved.ensures.items c.loop-call.invariant.answers;
  room = omega (arith, c.push_reserved.ensures.capacity, c.loop-call.invariant.room);
}

pub returns-clause-each : goal.returns-clause-each
returns-clause-each c = ended_long c.args.asked.now c.loop-call.answers.items (ended_all c.loop-call.call-index
    c.args.asked.now c.loop-call.answers.items c.loop-call-test.false c.loop-call.invariant.answers)
