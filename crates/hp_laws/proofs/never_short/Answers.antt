use Rattle.hp_laws.proofs.Apart.{never_short}
use Rattle.hp_laws.proofs.never_short.Goals as goal

pub returns : goal.returns
returns c = λ s reached t. never_short s t reached
