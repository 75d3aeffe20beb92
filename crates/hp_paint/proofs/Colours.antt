-- Whether a word is among those of a colour.
use Rattle.std.proofs.Common.{◌≡◌, ℕ, List, [], ◌∷◌, ◌||◌, map, refl, ap, ◌∙◌, Bor, bytes_eq}
use Rattle.std.specs.List.{list_any}
use Rattle.hp_paint.specs.Palettes.{is_among, words}
use Rattle.hp_paint.specs.declared.palette.Palette.{Palette}
use Rattle.hp_paint.specs.declared.palette.Colour.{Colour}

-- whether a word is among the texts that are lent
among_texts : (word : List ℕ) (others : List (Bor (List ℕ)))
    → list_any (λ other. bytes_eq other.now word) others ≡ is_among word (map (λ other. other.now) others)
among_texts word [] = refl
among_texts word (other ∷ others) = ap (λ b. bytes_eq other.now word || b) (among_texts word others)

-- where these are the words of a colour
pub among_words : (word : List ℕ) (p : Palette) (c : Colour) (others : List (Bor (List ℕ)))
    → map (λ other. other.now) others ≡ words p c → list_any (λ other. bytes_eq other.now word) others ≡ is_among word (words p c)
among_words word p c others same = among_texts word others ∙ ap (is_among word) same
