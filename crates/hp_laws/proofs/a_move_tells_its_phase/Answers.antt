use Rattle.hp_laws.proofs.Waiting.{moved_tells}
use Rattle.hp_laws.proofs.a_move_tells_its_phase.Goals as goal

pub returns : goal.returns
returns c = λ s reached t grant phase after. moved_tells s t grant phase after reached
