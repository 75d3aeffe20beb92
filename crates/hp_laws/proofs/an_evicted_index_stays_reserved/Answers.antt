use Rattle.hp_laws.proofs.Evicted.{evicted_stays}
use Rattle.hp_laws.proofs.an_evicted_index_stays_reserved.Goals as goal

pub returns : goal.returns
returns c = λ s reached t p rest n q. evicted_stays s t p rest n q reached
