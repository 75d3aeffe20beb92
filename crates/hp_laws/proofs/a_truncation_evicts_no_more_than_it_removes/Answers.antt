use Rattle.hp_laws.proofs.Evicted.{evicted_few}
use Rattle.hp_laws.proofs.a_truncation_evicts_no_more_than_it_removes.Goals as goal

pub returns : goal.returns
returns c = λ s reached t p. evicted_few s t p reached
