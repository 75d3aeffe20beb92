use Rattle.std.proofs.Common.{◌≡◌}
use Rattle.hp_pool_commands.proofs.stepping.answer_lines.Given as goal

-- no read has failed
abbrev pub invariant-loop : goal.invariant-loop
invariant-loop g l = g.R.Source.failures l.reader ≡ g.R.Source.failures l.fn.reader
