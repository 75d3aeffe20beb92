use Rattle.std.proofs.Common.{arith}
use Rattle.hp_region.specs.Regions.{is_member}
use Rattle.hp_base.proofs.Counting.{count_within-missing}
use Rattle.hp_region.proofs.walk.missing.Goals as goal

pub overflow_sub-result-2 : goal.overflow_sub-result-2
overflow_sub-result-2 c =
    omega (arith, c.held.ensures.counted, count_within-missing (is_member c.args.regions.now) c.args.from c.args.to)

pub returns : goal.returns
returns c = omega (arith, c.held.ensures.counted, count_within-missing (is_member c.args.regions.now) c.args.from c.args.to)
