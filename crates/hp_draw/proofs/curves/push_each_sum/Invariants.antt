use Rattle.std.proofs.Common.{◌≡◌, ◌++◌, take}
use Rattle.std.specs.Prelude.{string_bytes}
use Rattle.hp_draw.specs.Curves.{sum_text}
use Rattle.hp_draw.specs.Shapes.{texts}
use Rattle.hp_draw.proofs.curves.push_each_sum.Given as goal

abbrev pub invariant-loop-counts : goal.invariant-loop-counts
invariant-loop-counts l = string_bytes l.text ≡ string_bytes l.fn.text ++ texts (sum_text l.layout) (take l.counts-index l.numbers)
