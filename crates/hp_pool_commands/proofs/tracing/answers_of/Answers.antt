use Rattle.hp_client.proofs.Running.{ended_all, ended_long, ended_next}
use Rattle.hp_pool_commands.proofs.tracing.answers_of.Goals as goal

pub loop-call-preserved : goal.loop-call-preserved
loop-call-preserved c =
    ended_next c.loop-call.call-index c.args.asked.now c.loop-call.given.items _ c.call-item.result c.in-Some.answer
    c.loop-call-test.true c.call-item.is c.in-Some.is c.in-Ok.ensures.items c.loop-call.invariant

pub returns-clause-each : goal.returns-clause-each
returns-clause-each c =
    ended_long c.args.asked.now c.loop-call.given.items
    (ended_all c.loop-call.call-index c.args.asked.now c.loop-call.given.items c.loop-call-test.false c.loop-call.invariant)
