-- the words of so many watches were pushed
use Rattle.std.proofs.Common.{◌≡◌, ◌++◌, take}
use Rattle.std.specs.List.{flat_map}
use Rattle.hp_every.specs.Search.{watch_words}
use Rattle.hp_search.proofs.path.push_watches.Given as goal

abbrev pub invariant-loop-watch : goal.invariant-loop-watch
invariant-loop-watch l = l.words.items ≡ l.fn.words.items ++ flat_map watch_words (take l.watch-index l.watches)
