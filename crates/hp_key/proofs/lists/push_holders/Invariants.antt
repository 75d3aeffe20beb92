use Rattle.std.proofs.Common.{◌≡◌, ◌++◌, ◌∷◌, take}
use Rattle.std.specs.List.{flat_map}
use Rattle.hp_key.specs.Numbers.{maybe, number_words}
use Rattle.hp_key.proofs.lists.push_holders.Given as goal

abbrev pub invariant-loop-place : goal.invariant-loop-place
invariant-loop-place l =
    l.words.items ≡ l.fn.words.items ++ (l.places ∷ flat_map (maybe number_words) (take l.place l.table))
