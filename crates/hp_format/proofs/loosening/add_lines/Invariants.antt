use Rattle.std.proofs.Common.{◌≡◌, ◌++◌, ℕ, List, length}
use Rattle.hp_text.specs.TextLines.{lines_of}
use Rattle.hp_format.specs.Lines.{lines_in_all}
use Rattle.hp_format.specs.Loose.{AreGiven, LinesLead}
use Rattle.hp_format.proofs.loosening.add_lines.Given as goal

abbrev pub invariant-loop-line : goal.invariant-loop-line
invariant-loop-line l =
    ((done : List (List ℕ)) × AreGiven done l.draft.events × LinesLead l.fn.draft.core done l.draft.events l.draft.core
    × (lines_of l.fn.lines.rest.now ≡ done ++ lines_of l.lines.rest.now))
    × (l.draft.sizes ≡ l.fn.draft.sizes)
    × (lines_in_all l.lines.number l.lines.rest.now ≡ lines_in_all l.fn.lines.number l.fn.lines.rest.now)

abbrev pub decreases-loop-line : goal.decreases-loop-line
decreases-loop-line l = length l.lines.rest.now
