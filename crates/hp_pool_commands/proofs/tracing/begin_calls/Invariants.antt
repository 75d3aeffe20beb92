use Rattle.std.proofs.Common.{◌≡◌, take}
use Rattle.hp_client.specs.Rounds.{Begins}
use Rattle.hp_pool_commands.proofs.tracing.begin_calls.Given as goal

abbrev pub invariant-loop-task : goal.invariant-loop-task
invariant-loop-task l = record {
  sizes : l.draft.sizes ≡ l.fn.draft.sizes;
  begins : Begins l.fn.draft.core (take l.task-index l.calls) l.draft.core;
}
