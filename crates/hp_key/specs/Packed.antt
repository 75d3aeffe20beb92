-- Words as bytes: a search keeps many keys, and most of their words are small.
use Rattle.std.specs.Prelude.{ℕ, ◌/◌, ◌%◌, ◌∷◌, [], List, nat_lt, if◌then◌else◌}
use Rattle.std.specs.List.{flat_map}

-- a small word is one byte, any other the byte 255 and four more, the lowest first
abbrev pub word_bytes : ℕ → List ℕ
word_bytes n =
    if nat_lt n 255 then n ∷ [] else 255 ∷ n % 256 ∷ n / 256 % 256 ∷ n / 65536 % 256 ∷ n / 16777216 ∷ []

-- and so one after the other
abbrev pub packed : List ℕ → List ℕ
packed words = flat_map word_bytes words
