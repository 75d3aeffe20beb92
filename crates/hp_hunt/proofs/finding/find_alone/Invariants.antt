-- the runs so far don't meet all conditions
use Rattle.hp_hunt.specs.Hunting.{NoneMeets}
use Rattle.hp_hunt.proofs.finding.find_alone.Given as goal

abbrev pub invariant-loop-run : goal.invariant-loop-run
invariant-loop-run l = NoneMeets l.script l.hunt l.conditions l.run
