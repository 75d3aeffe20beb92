use Rattle.std.proofs.Common.{◌≡◌, ℕ}
use Rattle.hp_client.specs.Rounds.{Turns}
use Rattle.hp_pool_commands.proofs.tracing.take_turns.Given as goal

abbrev pub invariant-loop : goal.invariant-loop
invariant-loop l = record {
  sizes : l.draft.sizes ≡ l.fn.draft.sizes;
  made : (turns : ℕ) × Turns turns l.fn.draft.core l.initial.asked l.draft.core l.asked;
}
