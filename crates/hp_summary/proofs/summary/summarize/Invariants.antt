-- the runs so far have been counted
use Rattle.std.proofs.Common.{◌<◌, ◌≤◌, ◌-◌}
use Rattle.hp_summary.proofs.Gathered.{AreSurveyed}
use Rattle.hp_summary.proofs.summary.summarize.Given as goal

abbrev pub invariant-loop-first : goal.invariant-loop-first
invariant-loop-first g l = record {
  some : 0 < l.part;
  within : l.first ≤ l.survey.runs;
  counted : AreSurveyed l.script l.survey l.first l.tally;
}

abbrev pub decreases-loop-first : goal.decreases-loop-first
decreases-loop-first g l = l.survey.runs - l.first
