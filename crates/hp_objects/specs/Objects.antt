-- What is written of a text whose lines become objects.
use Rattle.std.specs.Prelude.{◌++◌, ◌∷◌, [], ◌&&◌, ◌||◌, ◌==◌, ◌+◌, ℕ, Bool, List, Option, Some, None, codes, nat_le, not, if◌then◌else◌}
use Rattle.std.specs.List.{filter, flat_map}
use Rattle.hp_objects.specs.Places.{closing, command, is_number, opening, place_at, writing_of}
use Rattle.hp_objects.specs.declared.objects.OpenLine.{OpenLine}
use Rattle.hp_objects.specs.declared.objects.Objects.{Objects}
use Rattle.hp_objects.specs.declared.places.Form.{Form}
use Rattle.hp_objects.specs.declared.places.Form.TheVariants.{Nothing, Inside, Quoted, Valued, Named, Numbered}
use Rattle.hp_objects.specs.declared.places.Next.{Next}
use Rattle.hp_objects.specs.declared.places.Output.{Output}

-- a byte inside a string: a quotation mark and a backslash have a backslash before them, and what isn't printable is a question mark (no
-- command writes such a byte)
abbrev pub escaped : ℕ → List ℕ
escaped b =
    if b == 34 || b == 92 then 92 ∷ b ∷ []
    else (if nat_le 32 b && nat_le b 126 then b ∷ [] else 63 ∷ [])

abbrev pub inside : List ℕ → List ℕ
inside word = flat_map escaped word

abbrev pub quoted : List ℕ → List ℕ
quoted word = 34 ∷ inside word ++ 34 ∷ []

-- without colons
abbrev pub without_colon : List ℕ → List ℕ
without_colon word = filter (λ b. not (b == 58)) word

-- a word, as it is written
abbrev pub written : Form → List ℕ → List ℕ
written Nothing word = []
written Inside word = inside word
written Quoted word = quoted word
written Valued word = if is_number word then word else quoted word
written Named word = quoted (without_colon word)
written Numbered word = without_colon word

-- what has come of a line: what the word that goes on is, and its bytes
pub record Line : Type 0 where
  pub next : Next
  pub word : List ℕ

abbrev pub line_of : OpenLine → Line
line_of held = record { next = held.next; word = held.word.items }

-- a line of which nothing has come
abbrev pub opening_line : Output → Line
opening_line o = record { next = opening o; word = [] }

-- what is written where the word ends, and what the next word is
abbrev pub told : Line → List ℕ
told l = (writing_of (place_at l.next l.word)).front ++ written (writing_of (place_at l.next l.word)).form l.word

abbrev pub next_behind : Line → Next
next_behind l = (writing_of (place_at l.next l.word)).next

-- what is written at a byte: a space ends a word, and a line feed the line
abbrev pub passed : Line → ℕ → List ℕ
passed l b = if b == 10 then told l ++ (closing (next_behind l) ++ 10 ∷ []) else (if b == 32 then told l else [])

-- and what has come of the line then
abbrev pub line_with : Output → Line → ℕ → Line
line_with o l b =
    if b == 10 then opening_line o
    else (if b == 32 then record { next = next_behind l; word = [] }
    else record { next = l.next; word = l.word ++ b ∷ [] })

-- the same of a text
abbrev pub objects : Output → Line → List ℕ → List ℕ
objects o l [] = []
objects o l (b ∷ bs) = passed l b ++ objects o (line_with o l b) bs

abbrev pub line_behind : Output → Line → List ℕ → Line
line_behind o l [] = l
line_behind o l (b ∷ bs) = line_behind o (line_with o l b) bs

-- the first object
abbrev pub heading : Output → List ℕ
heading o = codes "{\"schema\":1,\"command\":\"" ++ (command o ++ codes "\"}\n")

-- the output that is written to
abbrev pub objects_output : {W : Type 0} → Objects W → W
objects_output it = it.out

-- what an output holds, where nothing becomes an object
abbrev pub unless_objects : Option Output → Option (List ℕ) → Option (List ℕ)
unless_objects None contents = contents
unless_objects (Some output) contents = None
