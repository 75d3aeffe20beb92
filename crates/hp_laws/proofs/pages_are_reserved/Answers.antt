use Rattle.hp_laws.proofs.Apart.{pages_are_reserved}
use Rattle.hp_laws.proofs.pages_are_reserved.Goals as goal

pub returns : goal.returns
returns c = pages_are_reserved
