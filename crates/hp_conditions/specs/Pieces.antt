-- A text is cut at a sign.
use Rattle.std.specs.Prelude.{ℕ, List, [], ◌∷◌, ◌==◌, Option, Some, None, if◌then◌else◌}
use Rattle.std.specs.Option.{option_map, option_map_or}
use Rattle.hp_text.specs.Reading.{after_word}
use Rattle.hp_text.specs.TextLines.{glued}

-- with this byte before the first piece
abbrev pub with_front : ℕ → List ℕ × List ℕ → List ℕ × List ℕ
with_front b s = (b ∷ s.0, s.1)

-- what stands before the word's first place in the text, and what stands behind it
unfoldable pub split : (word text : List ℕ) → Option (List ℕ × List ℕ)
split word [] = None
split word (b ∷ bytes) = option_map_or (λ rest. Some ([], rest)) (after_word word (b ∷ bytes)) (option_map (with_front b) (split word bytes))

-- the alternatives of a text: what stands between its bars
unfoldable pub alternatives_of : List ℕ → List (List ℕ)
alternatives_of [] = [] ∷ []
alternatives_of (b ∷ bytes) = if b == 124 then [] ∷ alternatives_of bytes else glued b (alternatives_of bytes)
