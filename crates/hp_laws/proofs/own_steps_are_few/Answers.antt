use Rattle.hp_laws.proofs.Waiting.{own_steps_few}
use Rattle.hp_laws.proofs.own_steps_are_few.Goals as goal

pub returns : goal.returns
returns c = λ s g frames later begins past t top op. own_steps_few g frames later begins past s t top op
