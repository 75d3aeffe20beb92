use Rattle.std.proofs.Common.{◌≡◌, ◌++◌, take}
use Rattle.std.specs.Prelude.{string_bytes}
use Rattle.hp_draw.specs.Marks.{mark_text}
use Rattle.hp_draw.specs.Shapes.{texts}
use Rattle.hp_draw.proofs.marks.push_marks.Given as goal

abbrev pub invariant-loop-mark : goal.invariant-loop-mark
invariant-loop-mark l = string_bytes l.text ≡ string_bytes l.fn.text ++ texts (mark_text l.layout) (take l.mark-index l.marks)
