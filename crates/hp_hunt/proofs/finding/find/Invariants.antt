-- the runs so far don't meet all conditions
use Rattle.std.proofs.Common.{◌<◌, ◌≤◌, ◌-◌}
use Rattle.hp_hunt.specs.Hunting.{NoneMeets}
use Rattle.hp_hunt.proofs.finding.find.Given as goal

abbrev pub invariant-loop-first : goal.invariant-loop-first
invariant-loop-first g l = record {
  some : 0 < l.size;
  within : l.first ≤ l.hunt.limit;
  none : NoneMeets l.script l.hunt l.conditions l.first;
}

abbrev pub decreases-loop-first : goal.decreases-loop-first
decreases-loop-first g l = l.hunt.limit - l.first
