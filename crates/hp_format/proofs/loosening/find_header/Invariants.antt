use Rattle.std.proofs.Common.{◌≡◌, ◌++◌, ℕ, List, length}
use Rattle.std.specs.Prelude.{All}
use Rattle.hp_text.specs.TextLines.{lines_of}
use Rattle.hp_format.specs.Lines.{lines_in_all}
use Rattle.hp_format.specs.Loose.{HasNoWords}
use Rattle.hp_format.proofs.loosening.find_header.Given as goal

abbrev pub invariant-loop-line : goal.invariant-loop-line
invariant-loop-line l =
    (front : List (List ℕ)) × All HasNoWords front × (lines_of l.fn.lines.rest.now ≡ front ++ lines_of l.lines.rest.now)
    × (lines_in_all l.lines.number l.lines.rest.now ≡ lines_in_all l.fn.lines.number l.fn.lines.rest.now)

abbrev pub decreases-loop-line : goal.decreases-loop-line
decreases-loop-line l = length l.lines.rest.now
