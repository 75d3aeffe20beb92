use Rattle.std.proofs.Common.{◌≡◌, ◌-◌, ◌<◌, ◌≤◌, ◌++◌, true, drop, take, length, vec_len, slice_index_or}
use Rattle.hp_region.proofs.Lists.{meets, with_range, absorb}
use Rattle.hp_region.proofs.walk.add.Given as goal

abbrev pub invariant-loop-end : goal.invariant-loop-end
invariant-loop-end l = record {
  in_order : l.at ≤ l.end;
  in_range : l.end ≤ length l.regions.items;
  left : with_range l.regions.items l.fn.from l.fn.to ≡ take l.at l.regions.items
      ++ absorb (drop l.end l.regions.items) l.merged.from l.merged.to;
  first : l.end ≡ l.at
      → (l.merged.to ≡ l.fn.to)
      × (meets l.regions.items l.fn.from l.fn.to ≡ meets (drop l.at l.regions.items) l.fn.from l.fn.to)
      × ((l.at < length l.regions.items) → l.fn.from ≤ (slice_index_or l.regions.items l.at l.merged).to);
  later : l.at < l.end → meets l.regions.items l.fn.from l.fn.to ≡ true;
}

abbrev pub decreases-loop-end : goal.decreases-loop-end
decreases-loop-end l = vec_len l.regions - l.end
