-- A line without what only people need: comments, and more space than one between two words.
use Rattle.std.specs.Prelude.{◌==◌, ◌||◌, ℕ, Bool, true, false, List, [], ◌∷◌, if◌then◌else◌}

-- the bytes that part words: a space, a tab, and a carriage return, which may stand before a line's end
abbrev pub is_blank : ℕ → Bool
is_blank b = b == 32 || (b == 9 || b == 13)

-- a line without its comment, which a # begins
unfoldable pub uncommented : List ℕ → List ℕ
uncommented [] = []
uncommented (b ∷ bytes) = if b == 35 then [] else b ∷ uncommented bytes

-- one space before a text that begins with none; none at a line's end
abbrev pub spaced : List ℕ → List ℕ
spaced [] = []
spaced (b ∷ bytes) = if b == 32 then b ∷ bytes else 32 ∷ b ∷ bytes

-- each run of blanks as one space, and none at the line's end
unfoldable pub gathered : List ℕ → List ℕ
gathered [] = []
gathered (b ∷ bytes) = if is_blank b then spaced (gathered bytes) else b ∷ gathered bytes

-- without the space at its front
abbrev pub unpadded : List ℕ → List ℕ
unpadded [] = []
unpadded (b ∷ bytes) = if b == 32 then bytes else b ∷ bytes

-- the words of a line, with one space between two
abbrev pub tidy : List ℕ → List ℕ
tidy line = unpadded (gathered (uncommented line))

-- what a byte of a word appends: a space before it, where it begins another word
abbrev pub appended : (behind : Bool) → ℕ → List ℕ
appended true b = 32 ∷ b ∷ []
appended false b = b ∷ []
