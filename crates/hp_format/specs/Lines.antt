-- A text that may begin with a byte order mark, and its lines while they are counted.
use Rattle.std.specs.Prelude.{◌<◌, ◌+◌, ◌^◌, ℕ, List, [], ◌∷◌, drop, length, nat_eq, if◌then◌else◌}
use Rattle.std.specs.List.{starts_with}
use Rattle.hp_text.specs.TextLines.{lines_of}

-- the byte order mark, in UTF-8
abbrev pub mark : List ℕ
mark = 239 ∷ 187 ∷ 191 ∷ []

-- a text without a byte order mark at its front
abbrev pub unmarked : List ℕ → List ℕ
unmarked text = if starts_with nat_eq text mark then drop 3 text else text

-- so many lines there are in all, where so many came and the rest is left
abbrev pub lines_in_all : (number : ℕ) → (rest : List ℕ) → ℕ
lines_in_all number rest = number + length (lines_of rest)

-- they can be counted
abbrev pub AreFew : (number : ℕ) → (rest : List ℕ) → Type 0
AreFew number rest = lines_in_all number rest < 2 ^ 63
