use Rattle.std.proofs.Common.{◌≡◌, ◌+◌, ◌-◌, ◌≤◌, drop, length}
use Rattle.hp_region.proofs.Lists.{held_within}
use Rattle.hp_region.proofs.walk.held.Given as goal

abbrev pub invariant-loop-at : goal.invariant-loop-at
invariant-loop-at l = record {
  in_range : l.at ≤ length l.regions;
  left : l.held + held_within (drop l.at l.regions) l.from l.to ≡ held_within l.regions l.from l.to;
}

abbrev pub decreases-loop-at : goal.decreases-loop-at
decreases-loop-at l = length l.regions - l.at
