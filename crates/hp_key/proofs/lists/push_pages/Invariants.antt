use Rattle.std.proofs.Common.{◌≡◌, ◌++◌, ◌∷◌, length}
use Rattle.std.specs.FinMap.{entries, get}
use Rattle.std.specs.List.{flat_map}
use Rattle.hp_chunks.specs.Framed.{listed}
use Rattle.hp_key.specs.Key.{page_words}
use Rattle.hp_key.proofs.lists.push_pages.Given as goal

abbrev pub invariant-loop-number : goal.invariant-loop-number
invariant-loop-number l =
    l.words.items ≡ l.fn.words.items
    ++ (length (entries l.cache.pages) ∷ flat_map (page_words l.bank.frames) (listed (get l.cache.pages) 0 l.number))
