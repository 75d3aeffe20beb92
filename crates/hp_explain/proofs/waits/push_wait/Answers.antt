use Rattle.hp_explain.proofs.Laying.{one_wait}
use Rattle.hp_explain.proofs.waits.push_wait.Goals as goal

pub returns : goal.returns
returns c =
    one_wait c.push_acquired.result c.args.core.now c.args.task c.args.holder c.acquiring-wanted.result _ _ _ c.acquiring-wanted.ensures
    c.in_ok-write.ensures.bytes c.push_acquired.ensures
