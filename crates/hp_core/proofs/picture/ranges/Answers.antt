use Rattle.std.proofs.Common.{◌≡◌, ◌++◌, ◌∷◌, [], arith}
use Rattle.std.proofs.lemmas.Grind.{common_steps}
use Rattle.hp_core.proofs.Copying.{ranges_more}
use Rattle.hp_core.proofs.picture.ranges.Goals as goal

pub loop-place-preserved : goal.loop-place-preserved
loop-place-preserved c =
    let is : c.push.new.self.items ≡ c.loop-place.ranges.items ++ c.unwrap.result ∷ [] = grind (arith, common_steps) in
    ranges_more c.args.reserved.now.regions c.loop-place.place c.region.result c.unwrap.result
    c.loop-place.ranges.items _ c.region.ensures c.unwrap.ensures c.loop-place.invariant is
