use Rattle.std.proofs.Common.{◌≡◌, ◌≤◌, length}
use Rattle.hp_text.specs.TextLines.{lines_of}
use Rattle.hp_conditions.specs.Lines.{nothing, said, with_lines}
use Rattle.hp_conditions.proofs.lines.read_conditions.Given as goal

-- what is left is read behind so many lines
abbrev pub invariant-loop-left : goal.invariant-loop-left
invariant-loop-left l = record {
  few : l.number ≤ 65536;
  reads : with_lines l.number (said l.draft) (lines_of l.left) ≡ with_lines 0 nothing (lines_of l.text);
}

abbrev pub decreases-loop-left : goal.decreases-loop-left
decreases-loop-left l = length l.left
