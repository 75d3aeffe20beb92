use Rattle.hp_every.proofs.First.{steps_first}
use Rattle.hp_every.proofs.laws.a_private_step_may_come_first.Goals as goal

pub returns : goal.returns
returns c = λ script p last task moments place may calm leads over. steps_first script p task moments last place may calm leads over
