use Rattle.std.proofs.Common.{◌≡◌, ◌++◌, take}
use Rattle.std.specs.Prelude.{string_bytes}
use Rattle.hp_draw.specs.Curves.{point_text}
use Rattle.hp_draw.specs.Shapes.{texts}
use Rattle.hp_draw.proofs.curves.push_points.Given as goal

abbrev pub invariant-loop-counts : goal.invariant-loop-counts
invariant-loop-counts l =
    string_bytes l.text ≡ string_bytes l.fn.text ++ texts (point_text l.layout l.curve) (take l.counts-index l.numbers)
