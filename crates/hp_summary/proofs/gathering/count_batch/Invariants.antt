-- the runs up to here have been counted
use Rattle.std.proofs.Common.{◌+◌}
use Rattle.hp_summary.specs.Gathering.{AreCounted}
use Rattle.hp_summary.proofs.gathering.count_batch.Given as goal

abbrev pub invariant-loop-place : goal.invariant-loop-place
invariant-loop-place g l = AreCounted l.fn.batch (l.fn.batch.first + l.place) l.tally
