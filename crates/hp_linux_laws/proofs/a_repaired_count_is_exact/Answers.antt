use Rattle.hp_linux_laws.specs.Laws.{IsExact}
use Rattle.hp_linux_laws.proofs.Claims.{exact_count, by_repaired}
use Rattle.hp_linux_laws.proofs.a_repaired_count_is_exact.Goals as goal

pub returns : goal.returns
returns c = by_repaired IsExact exact_count
