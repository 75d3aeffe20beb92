-- Numbers in conditions.
use Rattle.std.specs.Prelude.{ℕ, ◌+◌, ◌-◌, ◌*◌, ◌==◌, List, [], ◌∷◌, Option, Some, None, codes, if◌then◌else◌, nat_le, unwrap_or}
use Rattle.std.specs.Char.{is_ascii_digit}
use Rattle.hp_text.specs.Reading.{◌>>=◌, after_word, limit}

-- n, and the digits behind it: no other byte, and no number of more than 32 bits
unfoldable pub digits_from : ℕ → List ℕ → Option ℕ
digits_from n [] = Some n
digits_from n (b ∷ bytes) =
    if is_ascii_digit b then (if nat_le (10 * n + (b - 48)) limit then digits_from (10 * n + (b - 48)) bytes else None) else None

-- some digits
unfoldable pub digits_at : List ℕ → Option ℕ
digits_at [] = None
digits_at (b ∷ bytes) = digits_from 0 (b ∷ bytes)

-- a number of 32 bits in digits, zeros at its front among them; a plus may stand before them
unfoldable pub number_at : List ℕ → Option ℕ
number_at text = digits_at (unwrap_or (after_word (codes "+") text) text)

-- a number that counts from 1
unfoldable pub counted_at : List ℕ → Option ℕ
counted_at text = number_at text >>= λ n. if n == 0 then None else Some n
