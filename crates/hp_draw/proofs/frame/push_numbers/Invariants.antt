use Rattle.std.proofs.Common.{◌≡◌, ◌++◌}
use Rattle.std.specs.Prelude.{string_bytes}
use Rattle.hp_draw.specs.Frames.{numbers_text}
use Rattle.hp_draw.proofs.frame.push_numbers.Given as goal

-- the numbers so far
abbrev pub invariant-loop-at : goal.invariant-loop-at
invariant-loop-at l = string_bytes l.text ≡ string_bytes l.fn.text ++ numbers_text l.layout l.at
