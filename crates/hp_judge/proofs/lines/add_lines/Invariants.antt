use Rattle.hp_judge.specs.Findings.{AddsBelow}
use Rattle.hp_judge.proofs.lines.add_lines.Given as goal

abbrev pub invariant-loop-number : goal.invariant-loop-number
invariant-loop-number l = AddsBelow l.places l.clause l.number l.initial.findings.items l.findings.items
