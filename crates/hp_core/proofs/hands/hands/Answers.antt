use Rattle.std.proofs.Common.{arith}
use Rattle.std.proofs.lemmas.Grind.{common_steps}
use Rattle.std.proofs.lemmas.List.Elements.{filter_map-append}
use Rattle.hp_core.proofs.hands.hands.Goals as goal

pub loop-task_state-preserved : goal.loop-task_state-preserved
loop-task_state-preserved c = grind (arith, common_steps, filter_map-append)
