use Rattle.hp_every.proofs.Explored.{scheduled}
use Rattle.hp_every.proofs.laws.an_explored_run_is_a_schedule.Goals as goal

pub returns : goal.returns
returns c = scheduled
