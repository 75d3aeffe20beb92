-- What is left of lists of which so many entries were used.
use Rattle.std.specs.Prelude.{ℕ, List, [], ◌∷◌, drop}
use Rattle.hp_shared.specs.declared.entry.Entry.{Entry}

-- each list without as many of its first entries
abbrev pub unused : List (List Entry) → List ℕ → List (List Entry)
unused [] ns = []
unused (l ∷ ls) [] = l ∷ ls
unused (l ∷ ls) (n ∷ ns) = drop n l ∷ unused ls ns
