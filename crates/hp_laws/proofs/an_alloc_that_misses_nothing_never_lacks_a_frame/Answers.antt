use Rattle.hp_laws.proofs.Lasting.{alloc_never_lacks}
use Rattle.hp_laws.proofs.an_alloc_that_misses_nothing_never_lacks_a_frame.Goals as goal

pub returns : goal.returns
returns c = λ s reached t p rest n q. alloc_never_lacks s t p rest n q reached
