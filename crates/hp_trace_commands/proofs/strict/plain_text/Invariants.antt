use Rattle.std.proofs.Common.{◌≡◌, ◌++◌, length}
use Rattle.hp_text.specs.TextLines.{lines_of}
use Rattle.hp_trace_commands.specs.Strict.{plain_lines}
use Rattle.hp_trace_commands.proofs.strict.plain_text.Given as goal

-- what was appended and what is to come are what comes of the whole text
abbrev pub invariant-loop-rest : goal.invariant-loop-rest
invariant-loop-rest l = (l.plain.items ++ plain_lines (lines_of l.rest) ≡ plain_lines (lines_of l.text))

abbrev pub decreases-loop-rest : goal.decreases-loop-rest
decreases-loop-rest l = length l.rest
