use Rattle.hp_linux_laws.specs.Laws.{IsListedCarefully}
use Rattle.hp_linux_laws.proofs.Claims.{listed_carefully, by_repaired}
use Rattle.hp_linux_laws.proofs.a_repaired_run_is_careful.Goals as goal

pub returns : goal.returns
returns c = by_repaired IsListedCarefully listed_carefully
