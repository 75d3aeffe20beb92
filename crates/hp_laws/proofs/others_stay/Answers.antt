use Rattle.hp_laws.proofs.Nearing.{others_stay}
use Rattle.hp_laws.proofs.others_stay.Goals as goal

pub returns : goal.returns
returns c = λ s event o after u row other. others_stay s after event o u row other
