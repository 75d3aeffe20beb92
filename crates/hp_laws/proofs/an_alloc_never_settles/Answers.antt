use Rattle.hp_laws.proofs.Unreached.{alloc_adds_all, alloc_never_settles}
use Rattle.hp_laws.proofs.an_alloc_never_settles.Goals as goal

pub returns : goal.returns
returns c = record { adds = alloc_adds_all; settles = alloc_never_settles }
