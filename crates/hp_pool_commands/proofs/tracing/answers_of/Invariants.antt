-- each call so far has ended, with its answer
use Rattle.std.proofs.Common.{take}
use Rattle.hp_client.specs.Rounds.{AreEnded}
use Rattle.hp_pool_commands.proofs.tracing.answers_of.Given as goal

abbrev pub invariant-loop-call : goal.invariant-loop-call
invariant-loop-call l = AreEnded (take l.call-index l.asked) l.given.items
