use Rattle.hp_laws.proofs.Telling.{callers_live}
use Rattle.hp_laws.proofs.callers_live.Goals as goal

pub returns : goal.returns
returns c = λ s reached t c e. callers_live s t c reached e
