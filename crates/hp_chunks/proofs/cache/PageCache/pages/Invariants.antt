use Rattle.std.proofs.Common.{◌≡◌, ◌++◌}
use Rattle.hp_chunks.proofs.cache.PageCache.pages.Given as goal

abbrev pub invariant-loop-number : goal.invariant-loop-number
invariant-loop-number l = l.pages.items ++ l.number-iterator ≡ l.initial.number-iterator
