use Rattle.std.proofs.Common.{eqb-true, sym, ◌∙◌}
use Rattle.hp_text.proofs.TextLines.{no_line}
use Rattle.hp_format.proofs.lines.Lines.next_line.Goals as goal

pub returns-then-is_empty-clause-none : goal.returns-then-is_empty-clause-none
returns-then-is_empty-clause-none c = λ _. no_line c.args.self.now.rest.now (eqb-true _ _ (sym c.is_empty.ensures ∙ c.if-is_empty.true))

pub returns-then-is_empty-clause-left : goal.returns-then-is_empty-clause-left
returns-then-is_empty-clause-left c = λ _. no_line c.args.self.now.rest.now (eqb-true _ _ (sym c.is_empty.ensures ∙ c.if-is_empty.true))
