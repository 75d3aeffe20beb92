use Rattle.std.proofs.Common.{◌≡◌, ◌+◌, ◌≤◌, length}
use Rattle.hp_text.specs.TextLines.{lines_of}
use Rattle.hp_picture.specs.Pictures.{taken}
use Rattle.hp_picture.proofs.text.take_text.Given as goal

abbrev pub invariant-loop-rest : goal.invariant-loop-rest
invariant-loop-rest l =
    (taken l.lines l.draft (lines_of l.rest) ≡ taken 0 l.fn.draft (lines_of l.text))
    × (l.lines + length l.rest ≤ length l.text)

abbrev pub decreases-loop-rest : goal.decreases-loop-rest
decreases-loop-rest l = length l.rest
