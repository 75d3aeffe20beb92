use Rattle.hp_laws.proofs.Apart.{spares_suffice}
use Rattle.hp_laws.proofs.each_change_has_a_spare.Goals as goal

pub returns : goal.returns
returns c = spares_suffice
