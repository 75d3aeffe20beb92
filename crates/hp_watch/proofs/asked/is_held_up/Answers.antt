use Rattle.hp_watch.proofs.Standing.{named, waits_there}
use Rattle.hp_watch.proofs.asked.is_held_up.Goals as goal

pub returns-then-has_task : goal.returns-then-has_task
returns-then-has_task c =
    named c.args.core.now c.args.task c.waits_for.result c.is_some.result c.is_some.ensures c.waits_for.ensures

pub returns-else-has_task : goal.returns-else-has_task
returns-else-has_task c = (
  λ has. let bad : ⊥ = cc in absurd bad,
  λ waits. c.has_task.ensures.1
      (waits_there c.args.core.now c.args.task waits.0 c.is_reached.ensures c.always.ensures.config waits.1),
)
