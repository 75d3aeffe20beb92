-- the step is at most the number; where no step is left, one less is too small
use Rattle.std.proofs.Common.{◌≡◌, ◌+◌, ◌<◌, ◌≤◌, length}
use Rattle.std.specs.Prelude.{true, false}
use Rattle.hp_hunt.specs.Conditions.{SomeRunMeets}
use Rattle.hp_hunt.specs.Lowering.{IsLowest, sum_of}
use Rattle.hp_hunt.specs.Numbers.{IsLeft, number_at}
use Rattle.hp_hunt.proofs.lowering.lower_number.Given as goal

abbrev pub invariant-loop-step : goal.invariant-loop-step
invariant-loop-step g l = record {
  count : length l.events.items ≡ length l.fn.events.items;
  left : IsLeft l.events.items l.fn.events.items;
  meets : SomeRunMeets l.config l.events.items l.conditions;
  smaller : l.done ≡ true → sum_of l.events.items < sum_of l.fn.events.items;
  same : l.done ≡ false → l.events.items ≡ l.fn.events.items;
  within : l.step ≤ number_at l.events.items l.place l.which;
  lowest : l.step ≡ 0 → IsLowest l.config l.conditions l.events.items l.place l.which;
}

abbrev pub decreases-loop-step : goal.decreases-loop-step
decreases-loop-step g l = sum_of l.events.items + l.step
