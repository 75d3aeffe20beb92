use Rattle.std.proofs.Common.{◌≤◌, All, length}
use Rattle.hp_explore.specs.Schedule.{AreRunnableOf}
use Rattle.hp_explore.proofs.walk.Walk.list_runnable.Given as goal

abbrev pub invariant-loop-place : goal.invariant-loop-place
invariant-loop-place l = record {
  runnable : AreRunnableOf l.plan l.self l.place l.tasks;
  in_range : All (λ t. (1 ≤ t) × (t ≤ length l.self.made)) l.tasks;
}
