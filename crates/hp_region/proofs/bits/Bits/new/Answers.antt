use Rattle.hp_region.proofs.Words.{none_fresh}
use Rattle.hp_region.proofs.bits.Bits.new.Goals as goal

pub returns : goal.returns
returns c = none_fresh 64
