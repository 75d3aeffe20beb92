use Rattle.std.proofs.Common.{length}
use Rattle.hp_text.proofs.Calls.{Taking}
use Rattle.hp_text.proofs.checking.take_piece.Given as goal

abbrev pub invariant-loop-rest : goal.invariant-loop-rest
invariant-loop-rest l = Taking l.fn.feed l.feed l.piece l.rest

abbrev pub decreases-loop-rest : goal.decreases-loop-rest
decreases-loop-rest l = length l.rest
