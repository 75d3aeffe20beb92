-- The lines of a text.
use Rattle.std.specs.Prelude.{◌==◌, ℕ, List, [], ◌∷◌, if◌then◌else◌}

-- a line with this byte at its front, or, where there is none, a line of it alone
abbrev pub glued : ℕ → List (List ℕ) → List (List ℕ)
glued b [] = (b ∷ []) ∷ []
glued b (line ∷ lines) = (b ∷ line) ∷ lines

-- the lines of a text, each without its end; the last need not have one
unfoldable pub lines_of : List ℕ → List (List ℕ)
lines_of [] = []
lines_of (b ∷ bytes) = if b == 10 then [] ∷ lines_of bytes else glued b (lines_of bytes)
