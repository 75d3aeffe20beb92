-- the words of the calls of so many tasks were pushed
use Rattle.std.proofs.Common.{◌≡◌, ◌++◌, take}
use Rattle.std.specs.List.{flat_map}
use Rattle.hp_every.specs.Search.{calls_words}
use Rattle.hp_search.proofs.path.push_calls.Given as goal

abbrev pub invariant-loop-call : goal.invariant-loop-call
invariant-loop-call l = l.words.items ≡ l.fn.words.items ++ flat_map calls_words (take l.call-index l.calls)
