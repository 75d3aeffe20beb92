use Rattle.std.specs.Prelude.{◌≡◌, map, take}
use Rattle.hp_core.proofs.picture.ranges.Given as goal

abbrev pub invariant-loop-place : goal.invariant-loop-place
invariant-loop-place l = l.ranges.items ≡ map (λ r. (r.from, r.to)) (take l.place l.reserved.regions)
