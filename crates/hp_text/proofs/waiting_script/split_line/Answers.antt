use Rattle.hp_text.proofs.Ends.{none_before, none_at_all}
use Rattle.hp_text.proofs.waiting_script.split_line.Goals as goal

pub returns-in-Some-clause-line : goal.returns-in-Some-clause-line
returns-in-Some-clause-line c = none_before c.args.piece.now c.in-Some.end c.in-Some.ensures.0.before

pub returns-in-None-clause-none : goal.returns-in-None-clause-none
returns-in-None-clause-none c = none_at_all c.args.piece.now c.in-None.ensures
