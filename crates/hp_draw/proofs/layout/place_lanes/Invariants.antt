use Rattle.std.proofs.Common.{◌≡◌, ◌+◌, ◌*◌, ◌≤◌, take}
use Rattle.std.specs.Prelude.{is_some, map}
use Rattle.hp_draw.specs.Places.{StandBelow}
use Rattle.hp_draw.specs.declared.layout.TheConstants.{TOP}
use Rattle.hp_draw.proofs.layout.place_lanes.Given as goal

-- the columns so far have their lanes
abbrev pub invariant-loop-is_seen : goal.invariant-loop-is_seen
invariant-loop-is_seen l =
    (map is_some l.tops.items ≡ take l.is_seen-index l.seen) × StandBelow l.tall TOP l.tops.items l.foot
    × (l.foot ≤ 128 + 102 * l.is_seen-index)
