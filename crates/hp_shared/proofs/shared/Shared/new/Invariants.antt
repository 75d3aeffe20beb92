use Rattle.std.proofs.Common.{◌≡◌, ◌+◌, ◌<◌, ℕ, length, Some, slice_get}
use Rattle.hp_shared.specs.Seats.{new_seat}
use Rattle.hp_shared.proofs.shared.Shared.new.Given as goal

abbrev pub invariant-loop-number : goal.invariant-loop-number
invariant-loop-number g l = record {
  parts : l.rest.parts + l.number ≡ l.fn.config.tasks;
  amount : l.rest.amount ≡ 0;
  count : length l.seats.items ≡ l.number;
  each : (j : ℕ) → j < l.number → slice_get l.seats.items j ≡ Some (new_seat (j + 1));
}
