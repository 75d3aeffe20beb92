use Rattle.hp_region.specs.Bits.{has_bit}
use Rattle.hp_region.proofs.Words.{put_range-add_range}
use Rattle.hp_region.proofs.bits.Bits.add_range.Goals as goal

pub returns : goal.returns
returns c = let whole = put_range-add_range (has_bit c.args.self.now) c.args.from c.args.to in cc
