use Rattle.std.proofs.Common.{◌≡◌, ◌+◌, ◌*◌}
use Rattle.hp_base.specs.Indices.{count_below}
use Rattle.hp_region.specs.Bits.{has_bit}
use Rattle.hp_region.proofs.bits.Bits.count.Given as goal

-- what was counted so far
abbrev pub invariant-loop-word : goal.invariant-loop-word
invariant-loop-word l =
    l.count + count_below (has_bit l.self-inside.words) (l.first * 64) ≡ count_below (has_bit l.self-inside.words) (l.word * 64)
