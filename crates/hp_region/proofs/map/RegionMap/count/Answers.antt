use Rattle.std.proofs.Common.{arith}
use Rattle.hp_base.specs.declared.limits.TheConstants.{LIMIT}
use Rattle.hp_base.proofs.Counting.{count_below_le}
use Rattle.hp_region.specs.Regions.{is_member}
use Rattle.hp_region.proofs.map.RegionMap.count.Goals as goal

pub returns-clause-in_limit : goal.returns-clause-in_limit
returns-clause-in_limit c = omega (arith, c.self.invariant.counted, count_below_le (is_member c.self.inside.regions.items) LIMIT)
