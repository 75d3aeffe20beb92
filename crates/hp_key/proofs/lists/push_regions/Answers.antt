use Rattle.std.proofs.Common.{◌∙◌, ℕ, ◌<◌, ◌≡◌, ◌++◌, ◌∷◌, [], List, length, get_or, ap, arith, refl}
use Rattle.std.proofs.lemmas.Grind.{common_steps}
use Rattle.std.proofs.lemmas.List.{append_assoc}
use Rattle.hp_region.specs.Regions.{is_member}
use Rattle.hp_key.specs.Key.{region_words}
use Rattle.hp_key.proofs.Writing.{few_regions, no_region, one_more, region_read, region_there}
use Rattle.hp_key.proofs.lists.push_regions.Goals as goal

pub overflow_cast-regions : goal.overflow_cast-regions
overflow_cast-regions c =
    let few = few_regions 4096 (is_member c.args.map.now.regions) in omega (arith, few, c.regions.ensures.runs)

pub unwrap-from-requires : goal.unwrap-from-requires
unwrap-from-requires c =
    let k = c.loop-place.place in
    let within : k < length c.args.map.now.regions = omega (arith, c.loop-place-test.true, c.regions-place-end.ensures.value) in
    region_there c.args.map.now.regions k c.region.result within c.region.ensures

pub loop-place-preserved : goal.loop-place-preserved
loop-place-preserved c =
    let regions = c.args.map.now.regions in
    let k = c.loop-place.place in
    let before = c.loop-place.words.items in
    let within : k < length regions = omega (arith, c.loop-place-test.true, c.regions-place-end.ensures.value) in
    let words : c.push-in-loop-place-2.new.self.items ≡ before ++ (c.unwrap-from.result.0 ∷ c.unwrap-from.result.1 ∷ []) =
    grind (arith, common_steps, append_assoc) in
    let more : c.push-in-loop-place-2.new.self.items ≡ before ++ region_words (get_or regions k no_region) =
    words ∙ ap (λ (ws : List ℕ). before ++ ws)
    (region_read regions k c.region.result c.unwrap-from.result no_region c.region.ensures c.unwrap-from.ensures) in
    one_more region_words c.args.words.now.items before c.push-in-loop-place-2.new.self.items (length regions) regions k
    (get_or regions k no_region) no_region within refl c.loop-place.invariant more
