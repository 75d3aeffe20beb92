use Rattle.hp_linux_laws.specs.Laws.{PagesAreReserved}
use Rattle.hp_linux_laws.proofs.Claims.{pages_reserved, by_repaired}
use Rattle.hp_linux_laws.proofs.repaired_pages_stay_reserved.Goals as goal

pub returns : goal.returns
returns c = by_repaired PagesAreReserved pages_reserved
