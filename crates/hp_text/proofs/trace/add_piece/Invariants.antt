use Rattle.std.proofs.Common.{length}
use Rattle.hp_text.proofs.Drafts.{Adding}
use Rattle.hp_text.proofs.trace.add_piece.Given as goal

abbrev pub invariant-loop-rest : goal.invariant-loop-rest
invariant-loop-rest l = Adding l.fn.feed l.feed l.fn.draft l.draft l.piece l.rest

abbrev pub decreases-loop-rest : goal.decreases-loop-rest
decreases-loop-rest l = length l.rest
