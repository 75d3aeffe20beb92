-- the words of so many calls were pushed
use Rattle.std.proofs.Common.{◌≡◌, ◌++◌, take}
use Rattle.std.specs.List.{flat_map}
use Rattle.hp_every.specs.Endings.{ended_call_words}
use Rattle.hp_search.proofs.closing.push_ended.Given as goal

abbrev pub invariant-loop-call : goal.invariant-loop-call
invariant-loop-call l = l.words.items ≡ l.fn.words.items ++ flat_map ended_call_words (take l.call-index l.ended)
