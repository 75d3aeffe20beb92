use Rattle.std.proofs.Common.{◌≡◌}
use Rattle.hp_shared.proofs.calls.step.Given as goal

abbrev pub invariant-loop : goal.invariant-loop
invariant-loop g l = l.seat ≡ l.fn.seat
