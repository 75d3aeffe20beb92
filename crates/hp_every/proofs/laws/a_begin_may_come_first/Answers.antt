use Rattle.hp_every.specs.Schedules.{plan_for}
use Rattle.hp_every.proofs.First.{begins_first}
use Rattle.hp_every.proofs.laws.a_begin_may_come_first.Goals as goal

pub returns : goal.returns
returns c = λ script p last task moments may calm leads over. begins_first (plan_for script) p task moments last may calm leads over
