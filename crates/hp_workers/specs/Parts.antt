-- How many places are handed out at once.
use Rattle.std.specs.Prelude.{ℕ, ◌*◌, min, nat_lt, if◌then◌else◌}

-- how many the part behind this one has: four times as many where its runs were soon made, but at most so many
abbrev pub next_part : (part most tasks turns : ℕ) → ℕ
next_part part most tasks turns = if nat_lt (turns * tasks) 16000000 then min (part * 4) most else part
