use Rattle.std.proofs.lemmas.Result.{err_from_is_err_and}
use Rattle.hp_client.proofs.Running.{begins_next, refused_at}
use Rattle.hp_client.proofs.rounds.begin_calls.Goals as goal

pub loop-task-preserved : goal.loop-task-preserved
loop-task-preserved c = begins_next _ _ _ _ _ _ c.loop-task-test.true c.loop-task-item.is c.loop-task.invariant
    c.in_ok-begin.ensures.ok

pub returns-in_err-begin-clause-refused : goal.returns-in_err-begin-clause-refused
returns-in_err-begin-clause-refused c =
    let p = err_from_is_err_and c.from_residual.result c.from_residual.ensures.1 in
    rw (p.1, p.2) (refused_at c.in_err-begin.field-0.0 c.args.core.now c.loop-task.core c.begin.new.core
    c.loop-task.task-index c.args.calls.now c.loop-task-item.result c.loop-task-test.true c.loop-task-item.is
    c.loop-task.invariant c.in_err-begin.ensures.refused)
