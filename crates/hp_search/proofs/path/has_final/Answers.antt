use Rattle.std.proofs.Common.{arith}
use Rattle.hp_search.proofs.path.has_final.Goals as goal

pub returns-clause-none : goal.returns-clause-none
returns-clause-none c = λ no k d within. c.loop-condition.invariant k d (omega (arith, within, c.loop-condition-test.false))
