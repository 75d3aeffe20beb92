use Rattle.std.proofs.Common.{false, refl, sym, arith}
use Rattle.hp_base.specs.declared.limits.TheConstants.{LIMIT}
use Rattle.hp_base.proofs.Counting.{count_below_none}
use Rattle.hp_region.proofs.map.RegionMap.new.Goals as goal

pub invariant_of-result : goal.invariant_of-result
invariant_of-result c = record {
  apart = rw c.new.ensures.items tt;
  marked = rw c.new.ensures.items c.new-2.ensures;
  counted = rw c.new.ensures.items (sym (count_below_none (λ k. false) LIMIT (λ k below. refl)));
  covered = omega arith;
  capacity = omega arith;
}
