use Rattle.std.proofs.Common.{◌≡◌, ◌+◌, ◌++◌, take, drop}
use Rattle.hp_hunt.proofs.cutting.without.Given as goal

abbrev pub invariant-loop-event : goal.invariant-loop-event
invariant-loop-event l = l.left.items ≡ take l.from l.events ++ take l.event-index (drop (l.from + l.len) l.events)
