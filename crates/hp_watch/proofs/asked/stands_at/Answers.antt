use Rattle.hp_watch.proofs.Standing.{stands_there}
use Rattle.hp_watch.proofs.asked.stands_at.Goals as goal

pub returns-else-has_task : goal.returns-else-has_task
returns-else-has_task c = (
  λ has. let bad : ⊥ = cc in absurd bad,
  λ at. c.has_task.ensures.1
      (stands_there c.args.core.now c.args.task c.args.phase c.is_reached.ensures c.always.ensures.config at),
)
