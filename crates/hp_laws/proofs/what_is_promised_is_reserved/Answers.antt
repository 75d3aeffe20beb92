use Rattle.hp_laws.proofs.Keeping.{promised_reserved}
use Rattle.hp_laws.proofs.what_is_promised_is_reserved.Goals as goal

pub returns : goal.returns
returns c = λ s g frames moments f i. promised_reserved g frames moments s f i
