-- Bytes that are checked and not kept.
use Rattle.std.specs.Prelude.{◌≡◌, ℕ, List, [], ◌∷◌, ◌++◌, length, Option, codes}
use Rattle.std.specs.Fmt.{decimal}
use Rattle.hp_base.specs.Text.{Sizes}
use Rattle.hp_base.specs.declared.event.Event.{Event}
use Rattle.hp_text.specs.Collecting.{ReadsTrace}

-- the reader's bytes were the text of a trace of so many events
pub record ReadsEvents (n : ℕ) (from to : Option (List ℕ)) : Type 0 where
  pub sizes : Sizes
  pub events : List Event
  pub reads : ReadsTrace from to sizes events
  pub count : n ≡ length events

-- `events N`
abbrev pub count_line : ℕ → List ℕ
count_line n = codes "events " ++ (decimal n ++ 10 ∷ [])
