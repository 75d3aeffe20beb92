use Rattle.std.proofs.Common.{◌≡◌, ◌++◌, ◌∷◌, length, take}
use Rattle.std.specs.List.{flat_map}
use Rattle.hp_key.specs.Key.{space_words}
use Rattle.hp_key.proofs.lists.push_spaces.Given as goal

abbrev pub invariant-loop-space : goal.invariant-loop-space
invariant-loop-space l =
    l.words.items ≡ l.fn.words.items ++ (length l.spaces ∷ flat_map space_words (take l.space-index l.spaces))
