-- what the run has made so far is watched
use Rattle.std.proofs.Common.{◌≡◌, ◌-◌, ◌≤◌, length}
use Rattle.hp_explore.specs.SoFar.{IsBetweenTurns, IsSoFar}
use Rattle.hp_hunt.specs.Watching.{known_of}
use Rattle.hp_hunt.proofs.Watched.{IsWatched}
use Rattle.hp_hunt.proofs.finding.explore_run.Given as goal

abbrev pub invariant-loop-turns : goal.invariant-loop-turns
invariant-loop-turns l = record {
  between : IsBetweenTurns l.plan l.turns;
  so_far : IsSoFar l.script l.seed l.plan.deny l.plan.kill l.run l.events.items l.turns;
  watched : IsWatched l.script.config l.conditions l.events.items l.turns.world.core (known_of l.watches);
  count : length l.events.items ≡ l.turns.world.turns;
  few : l.turns.world.turns ≤ 1000000;
}

abbrev pub decreases-loop-turns : goal.decreases-loop-turns
decreases-loop-turns l = 1000000 - l.turns.world.turns
