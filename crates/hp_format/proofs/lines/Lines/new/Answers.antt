use Rattle.std.proofs.Common.{arith}
use Rattle.hp_format.proofs.LedLines.{few_lines}
use Rattle.hp_format.proofs.lines.Lines.new.Goals as goal

pub returns-clause-few : goal.returns-clause-few
returns-clause-few c = let few = few_lines c.unmarked.result.now in omega (arith, few)
