use Rattle.std.proofs.Common.{◌≡◌, drop, take}
use Rattle.hp_client.specs.Rounds.{Turn}
use Rattle.hp_pool_commands.proofs.tracing.turn.Given as goal

abbrev pub invariant-loop-call : goal.invariant-loop-call
invariant-loop-call l = record {
  sizes : l.draft.sizes ≡ l.fn.draft.sizes;
  made : Turn l.fn.draft.core (take l.call-index l.initial.asked) l.draft.core (take l.call-index l.asked);
  others : drop l.call-index l.asked ≡ drop l.call-index l.initial.asked;
}
