use Rattle.hp_region.proofs.Words.{mask_bits}
use Rattle.hp_region.proofs.bits.mask.Goals as goal

pub returns : goal.returns
returns c bit below = mask_bits c.args.low c.args.high bit c.requires.in_order c.requires.in_word below
