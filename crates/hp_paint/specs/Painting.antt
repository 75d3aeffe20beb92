-- What is written of a text whose words are coloured.
use Rattle.std.specs.Prelude.{◌++◌, ◌∷◌, [], ◌&&◌, ◌||◌, ◌==◌, ℕ, Bool, List, Option, Some, None, true, false, not}
use Rattle.std.specs.Prelude.{length, nat_le, nat_lt, if◌then◌else◌}
use Rattle.hp_paint.specs.Palettes.{shown}
use Rattle.hp_paint.specs.declared.painting.OpenWord.{OpenWord}
use Rattle.hp_paint.specs.declared.painting.Painted.{Painted}
use Rattle.hp_paint.specs.declared.palette.Palette.{Palette}

-- a letter, a digit, `_` or `-`
abbrev pub in_word : ℕ → Bool
in_word b = (nat_le 97 b && nat_le b 122) || (nat_le 65 b && nat_le b 90) || (nat_le 48 b && nat_le b 57) || b == 95 || b == 45

-- The last word of a text, which may go on: it is held back, or it is longer than any coloured word, and none of it is held back
pub data Open : Type 0 where
  Short : (word : List ℕ) → Open
  Long : Open

abbrev pub word_of : OpenWord → Open
word_of held = if held.is_long then Long else Short held.bytes.items

-- what is written of a byte behind it, and which word is open then
abbrev pub passed : Palette → Open → ℕ → List ℕ
passed p (Short word) b = if in_word b then (if nat_lt (length word) 11 then [] else word ++ b ∷ []) else (shown p word ++ b ∷ [])
passed p Long b = b ∷ []

abbrev pub opened : Open → ℕ → Open
opened (Short word) b = if in_word b then (if nat_lt (length word) 11 then Short (word ++ b ∷ []) else Long) else Short []
opened Long b = if in_word b then Long else Short []

-- the same of a text
abbrev pub painted : Palette → Open → List ℕ → List ℕ
painted p o [] = []
painted p o (b ∷ bs) = passed p o b ++ painted p (opened o b) bs

abbrev pub open_behind : Open → List ℕ → Open
open_behind o [] = o
open_behind o (b ∷ bs) = open_behind (opened o b) bs

-- what is written where the open word ends
abbrev pub closed : Palette → Open → List ℕ
closed p (Short word) = shown p word
closed p Long = []

-- the output that is written to
abbrev pub painted_output : {W : Type 0} → Painted W → W
painted_output painted = painted.out

-- what an output holds, where nothing is coloured
abbrev pub unless_coloured : Option Palette → Option (List ℕ) → Option (List ℕ)
unless_coloured None contents = contents
unless_coloured (Some palette) contents = None

-- a text without the sequences of colours: each begins with the byte 27, and ends with an `m`
abbrev pub unpainted_in : (is_in : Bool) → List ℕ → List ℕ
unpainted_in is_in [] = []
unpainted_in true (b ∷ bs) = unpainted_in (not (b == 109)) bs
unpainted_in false (b ∷ bs) = if b == 27 then unpainted_in true bs else b ∷ unpainted_in false bs

abbrev pub unpainted : List ℕ → List ℕ
unpainted text = unpainted_in false text

-- what is held back
abbrev pub held : Open → List ℕ
held (Short word) = word
held Long = []
