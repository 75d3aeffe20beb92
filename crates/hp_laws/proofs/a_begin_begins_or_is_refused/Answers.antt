use Rattle.hp_laws.proofs.Telling.{begins}
use Rattle.hp_laws.proofs.a_begin_begins_or_is_refused.Goals as goal

pub returns : goal.returns
returns c = λ s t op o after row. begins s t op o after row
