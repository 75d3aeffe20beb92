use Rattle.hp_laws.proofs.Apart.{hands_apart}
use Rattle.hp_laws.proofs.hands_are_apart.Goals as goal

pub returns : goal.returns
returns c = hands_apart
