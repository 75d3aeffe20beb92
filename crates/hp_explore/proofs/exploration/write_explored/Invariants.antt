use Rattle.std.proofs.Common.{◌≡◌, ◌-◌, ◌≤◌, ◌<◌}
use Rattle.hp_explore.proofs.WrittenLines.{AllButKept}
use Rattle.hp_explore.proofs.exploration.write_explored.Given as goal

abbrev pub invariant-loop-explored : goal.invariant-loop-explored
invariant-loop-explored g l =
    AllButKept l.script l.exploration l.explored l.finished (g.W.Sink.contents l.fn.writer) (g.W.Sink.contents l.writer) l.lines.items
    × (g.W.Sink.failures l.writer ≡ g.W.Sink.failures l.fn.writer)
    × (0 < l.part)
    × (l.part ≤ 16384)

abbrev pub decreases-loop-explored : goal.decreases-loop-explored
decreases-loop-explored g l = l.exploration.runs - l.explored
