use Rattle.hp_laws.proofs.Leads.{no_dead_ends}
use Rattle.hp_laws.proofs.no_dead_ends.Goals as goal

pub returns : goal.returns
returns c = λ s reached event. no_dead_ends s event reached
