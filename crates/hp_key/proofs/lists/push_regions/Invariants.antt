use Rattle.std.proofs.Common.{◌≡◌, ◌++◌, ◌∷◌, length, take}
use Rattle.std.specs.List.{flat_map}
use Rattle.hp_key.specs.Key.{region_words}
use Rattle.hp_key.proofs.lists.push_regions.Given as goal

abbrev pub invariant-loop-place : goal.invariant-loop-place
invariant-loop-place l =
    l.words.items ≡ l.fn.words.items ++ (length l.map.regions ∷ flat_map region_words (take l.place l.map.regions))
