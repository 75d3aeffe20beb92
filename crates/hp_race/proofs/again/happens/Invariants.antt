use Rattle.std.proofs.Common.{take}
use Rattle.hp_shared.specs.Journal.{Follows}
use Rattle.hp_race.proofs.again.happens.Given as goal

abbrev pub invariant-loop-entry : goal.invariant-loop-entry
invariant-loop-entry l = Follows l.fn.core (take l.entry-index l.entries) l.core
