-- What the run from here on tells, the run from the start tells.
use Rattle.std.proofs.Common.{◌≡◌, ◌-◌, ◌≤◌, All, List, length}
use Rattle.hp_base.specs.declared.event.Event.{Event}
use Rattle.hp_explore.specs.declared.line.RunLine.{RunLine}
use Rattle.hp_explore.specs.Schedule.{AreRunnable}
use Rattle.hp_explore.specs.Explored.{IsRun, IsLine}
use Rattle.hp_explore.proofs.exploring.explore_one.Given as goal

abbrev pub invariant-loop-turn : goal.invariant-loop-turn
invariant-loop-turn l = record {
  turns : l.walk.turns ≡ l.turn;
  runnable : AreRunnable l.plan l.walk l.tasks;
  in_range : All (λ t. (1 ≤ t) × (t ≤ length l.walk.made)) l.tasks;
  many : length l.walk.made ≡ l.script.config.tasks;
  goes_on : (events : List Event) (line : RunLine) → IsRun l.plan l.run (1000000 - l.turn) l.walk events line
      → IsLine l.script l.seed l.plan.deny l.plan.kill l.run line;
}
