-- what the run has made so far is noted
use Rattle.std.proofs.Common.{◌≡◌, ◌-◌, ◌≤◌}
use Rattle.hp_core.specs.Readers.{config_of}
use Rattle.hp_explore.specs.SoFar.{IsBetweenTurns}
use Rattle.hp_summary.specs.Noting.{AreLong}
use Rattle.hp_summary.proofs.Gathered.{IsNoted}
use Rattle.hp_summary.proofs.gathering.facts_of_run.Given as goal

abbrev pub invariant-loop-turns : goal.invariant-loop-turns
invariant-loop-turns l = record {
  between : IsBetweenTurns l.plan l.turns;
  noted : IsNoted l.script l.seed l.plan.deny l.plan.kill l.run l.turns l.notes;
  long : AreLong l.notes (config_of l.turns.world.core).tasks;
  sized : (config_of l.turns.world.core).tasks ≡ l.script.config.tasks;
  few : l.turns.world.turns ≤ 1000000;
}

abbrev pub decreases-loop-turns : goal.decreases-loop-turns
decreases-loop-turns l = 1000000 - l.turns.world.turns
