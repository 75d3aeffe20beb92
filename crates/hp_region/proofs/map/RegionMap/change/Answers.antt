use Rattle.std.proofs.Common.{arith}
use Rattle.hp_base.proofs.Counting.{missing_le}
use Rattle.hp_region.specs.Regions.{is_member}
use Rattle.hp_region.proofs.map.RegionMap.change.Goals as goal

pub invariant_of-result : goal.invariant_of-result
invariant_of-result c = record {
  in_order = c.requires.in_order;
  in_limit = c.requires.in_limit;
  at_most = omega (arith, c.missing-missing.ensures.counted, missing_le (is_member c.args.self.now.regions) c.args.from c.args.to);
}
