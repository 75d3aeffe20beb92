use Rattle.hp_laws.proofs.Losing.{truncation_leaves_nothing}
use Rattle.hp_laws.proofs.a_truncation_leaves_nothing_above.Goals as goal

pub returns : goal.returns
returns c = λ s reached t grant phase after. truncation_leaves_nothing s t grant phase after reached
