use Rattle.std.proofs.Common.{length}
use Rattle.std.specs.Prelude.{Some}
use Rattle.hp_replay.proofs.Running.{Running}
use Rattle.hp_replay.proofs.replaying.run_piece.Given as goal

abbrev pub invariant-loop-rest : goal.invariant-loop-rest
invariant-loop-rest l = Running l.fn.feed l.feed l.fn.core l.core (Some l.fn.lines) (Some l.lines) l.piece l.rest

abbrev pub decreases-loop-rest : goal.decreases-loop-rest
decreases-loop-rest l = length l.rest
