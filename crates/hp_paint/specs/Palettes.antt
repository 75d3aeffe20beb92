-- Which words are coloured, and how.
use Rattle.std.specs.Prelude.{◌++◌, ◌∷◌, [], ℕ, Bool, List, Option, Some, None, codes, bytes_eq, if◌then◌else◌}
use Rattle.std.specs.List.{list_any}
use Rattle.hp_paint.specs.declared.palette.Palette.{Palette}
use Rattle.hp_paint.specs.declared.palette.Palette.TheVariants.{Outcomes, Runs, Races, Work}
use Rattle.hp_paint.specs.declared.palette.Colour.{Colour}
use Rattle.hp_paint.specs.declared.palette.Colour.TheVariants.{Red, Yellow}

-- the words of failure, and those of waiting
abbrev pub words : Palette → Colour → List (List ℕ)
words Outcomes Red = codes "segv" ∷ codes "beyond" ∷ codes "noframe" ∷ codes "noquota" ∷ codes "nomemory" ∷ codes "interrupted"
    ∷ codes "killed" ∷ codes "badfile" ∷ codes "badrange" ∷ codes "notmapped" ∷ codes "noaddress"
    ∷ codes "refused" ∷ codes "notalive" ∷ codes "incall" ∷ codes "idle" ∷ codes "badsize" ∷ []
words Outcomes Yellow = codes "blocked" ∷ codes "waits" ∷ []
words Runs Red = codes "limit" ∷ codes "stuck" ∷ codes "shape" ∷ codes "agree" ∷ codes "place" ∷ codes "size" ∷ codes "count"
    ∷ codes "used" ∷ []
words Runs Yellow = []
words Races Red = codes "disagree" ∷ codes "astray" ∷ codes "late" ∷ []
words Races Yellow = []
words Work Red = codes "bad" ∷ []
words Work Yellow = []

-- whether it is one of them
abbrev pub is_among : List ℕ → List (List ℕ) → Bool
is_among word others = list_any (λ other. bytes_eq other word) others

-- the colour of a word
abbrev pub colour_of : Palette → List ℕ → Option Colour
colour_of p word = if is_among word (words p Red) then Some Red else (if is_among word (words p Yellow) then Some Yellow else None)

-- what begins a colour, and what ends it
abbrev pub sequence : Colour → List ℕ
sequence Red = 27 ∷ codes "[31m"
sequence Yellow = 27 ∷ codes "[33m"

abbrev pub plain : List ℕ
plain = 27 ∷ codes "[0m"

-- a word in a colour, and a whole word as it is written
abbrev pub in_colour : Option Colour → List ℕ → List ℕ
in_colour None word = word
in_colour (Some colour) word = sequence colour ++ word ++ plain

abbrev pub shown : Palette → List ℕ → List ℕ
shown p word = in_colour (colour_of p word) word
