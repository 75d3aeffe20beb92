-- What an export answers of one line of a trace.
use Rattle.std.specs.Prelude.{◌≡◌, ◌⊎◌, ◌<◌, ℕ, List, Option, None, IsSome, IsSomeAnd, length}
use Rattle.hp_c.specs.Codes.{no_memory, no_such, too_small}
use Rattle.hp_c.specs.Texts.{IsPut}

-- the line was put into the room for it, and its length was told
abbrev pub IsLinePut : (line : Option (List ℕ)) → (old new : List ℕ) → (needed : ℕ) → Type 0
IsLinePut line old new needed = IsSomeAnd line (λ text. (needed ≡ length text) × IsPut text old new)

-- no line is put: the room is too small for its bytes, there was no memory for it, or the numbers name none
abbrev pub IsLineKept : (line : Option (List ℕ)) → (room needed code : ℕ) → Type 0
IsLineKept line room needed code =
    (code ≡ too_small) × IsSomeAnd line (λ text. (needed ≡ length text) × (room < needed))
    ⊎ (code ≡ no_memory) × (needed ≡ 0) × IsSome line
    ⊎ (code ≡ no_such) × (needed ≡ 0) × (line ≡ None)
