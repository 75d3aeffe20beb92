use Rattle.std.specs.Prelude.{string_bytes}
use Rattle.hp_explain.proofs.JsonLaying.{no_task, one_task}
use Rattle.hp_explain.proofs.json_end.push_tasks.Goals as goal

pub loop-task-init : goal.loop-task-init
loop-task-init c = no_task c.args.core.now (string_bytes c.args.text.now)

pub loop-task-preserved : goal.loop-task-preserved
loop-task-preserved c =
    one_task c.args.core.now c.loop-task.task c.new.result (string_bytes c.args.text.now) (string_bytes c.loop-task.text)
    (string_bytes c.push_comma_before.new.text) (string_bytes c.push_task.new.text) c.new.ensures c.loop-task.invariant
    c.in_ok-push_comma_before.ensures c.in_ok-push_task.ensures
