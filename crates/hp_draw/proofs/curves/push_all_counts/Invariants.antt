use Rattle.std.proofs.Common.{◌≡◌, ◌++◌, take}
use Rattle.std.specs.Prelude.{string_bytes}
use Rattle.hp_draw.specs.Curves.{counts_text}
use Rattle.hp_draw.specs.Shapes.{texts}
use Rattle.hp_draw.proofs.curves.push_all_counts.Given as goal

abbrev pub invariant-loop-counts : goal.invariant-loop-counts
invariant-loop-counts l = string_bytes l.text ≡ string_bytes l.fn.text
    ++ texts (counts_text l.layout l.quota) (take l.counts-index l.numbers)
