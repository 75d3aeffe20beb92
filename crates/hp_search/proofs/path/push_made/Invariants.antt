-- the words of so many tasks were pushed
use Rattle.std.proofs.Common.{◌≡◌, ◌++◌, ◌∷◌, length, take}
use Rattle.std.specs.List.{flat_map}
use Rattle.hp_key.specs.Numbers.{wide}
use Rattle.hp_search.proofs.path.push_made.Given as goal

abbrev pub invariant-loop-calls : goal.invariant-loop-calls
invariant-loop-calls l = l.words.items ≡ l.fn.words.items ++ length l.made ∷ flat_map wide (take l.calls-index l.made)
