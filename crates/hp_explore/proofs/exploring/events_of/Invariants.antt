-- What the run from here on makes and tells, behind what it made so far, the run from the start makes and tells.
use Rattle.std.proofs.Common.{◌≡◌, ◌-◌, ◌≤◌, All, List, ◌++◌, length}
use Rattle.hp_base.specs.declared.event.Event.{Event}
use Rattle.hp_explore.specs.declared.line.RunLine.{RunLine}
use Rattle.hp_explore.specs.Schedule.{AreRunnable}
use Rattle.hp_explore.specs.Explored.{IsRun, IsExplored}
use Rattle.hp_explore.proofs.exploring.events_of.Given as goal

abbrev pub invariant-loop-made : goal.invariant-loop-made
invariant-loop-made l = record {
  turns : l.walk.turns ≡ l.made;
  runnable : AreRunnable l.plan l.walk l.tasks;
  in_range : All (λ t. (1 ≤ t) × (t ≤ length l.walk.made)) l.tasks;
  count : length l.events.items ≡ l.made;
  many : length l.walk.made ≡ l.script.config.tasks;
  goes_on : (rest : List Event) (line : RunLine) → IsRun l.plan 0 (1000000 - l.made) l.walk rest line
      → IsExplored l.script l.seed l.plan.deny l.plan.kill 0 (l.events.items ++ rest) line;
}
