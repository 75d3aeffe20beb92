use Rattle.hp_region.specs.Bits.{has_bit}
use Rattle.hp_region.proofs.Words.{put_range-put}
use Rattle.hp_region.proofs.bits.Bits.take.Goals as goal

pub returns : goal.returns
returns c = let whole = put_range-put (has_bit c.args.self.now) c.args.index in cc
