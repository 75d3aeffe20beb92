use Rattle.std.proofs.Common.{◌≡◌, ◌++◌}
use Rattle.hp_draw.specs.Sketches.{stays_in}
use Rattle.hp_draw.proofs.sketch.add_stays_in.Given as goal

-- the stays of the columns so far
abbrev pub invariant-loop-column : goal.invariant-loop-column
invariant-loop-column l = l.stays.items ≡ l.fn.stays.items ++ stays_in l.at l.open_stays l.column
