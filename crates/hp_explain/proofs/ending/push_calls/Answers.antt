use Rattle.std.specs.Prelude.{string_bytes}
use Rattle.hp_explain.proofs.Laying.{no_call, one_call}
use Rattle.hp_explain.proofs.ending.push_calls.Goals as goal

pub loop-task-init : goal.loop-task-init
loop-task-init c = no_call c.args.core.now (string_bytes c.args.text.now)

pub loop-task-preserved : goal.loop-task-preserved
loop-task-preserved c =
    one_call c.args.core.now c.loop-task.task c.new.result (string_bytes c.args.text.now) (string_bytes c.loop-task.text)
    (string_bytes c.push_task.new.text) c.new.ensures c.loop-task.invariant c.in_ok-push_task.ensures
