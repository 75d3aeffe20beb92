use Rattle.hp_laws.proofs.Served.{alloc_takes}
use Rattle.hp_laws.proofs.an_alloc_that_misses_nothing_takes_a_frame.Goals as goal

pub returns : goal.returns
returns c = λ s reached t grant p o after. alloc_takes s t grant p o after reached
