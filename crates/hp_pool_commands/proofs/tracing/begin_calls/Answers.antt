use Rattle.std.proofs.Common.{◌∙◌}
use Rattle.hp_client.proofs.Running.{begins_next}
use Rattle.hp_pool_commands.proofs.tracing.begin_calls.Goals as goal

pub loop-task-preserved : goal.loop-task-preserved
loop-task-preserved c = record {
  sizes = c.begin.ensures.sizes ∙ c.loop-task.invariant.sizes;
  begins =
      begins_next _ _ _ _ _ _ c.loop-task-test.true c.loop-task-item.is c.loop-task.invariant.begins c.in_ok-begin.ensures.row;
}
