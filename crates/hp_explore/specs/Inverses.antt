-- The numbers by which remainders are found.
use Rattle.std.specs.Prelude.{ℕ, ◌+◌, ◌-◌, ◌/◌, ◌%◌, ◌^◌}

-- 2^64 over the number, rounded up, in 64 bits
abbrev pub inverse_of : ℕ → ℕ
inverse_of d = ((2 ^ 64 - 1) / d + 1) % 2 ^ 64
