-- of what is behind that place no number can be smaller, where none is
use Rattle.std.proofs.Common.{◌≡◌, ℕ, ◌<◌, ◌≤◌, length}
use Rattle.std.specs.Prelude.{true, false}
use Rattle.hp_hunt.specs.Conditions.{SomeRunMeets}
use Rattle.hp_hunt.specs.Lowering.{IsLowest, sum_of}
use Rattle.hp_hunt.specs.Numbers.{IsLeft}
use Rattle.hp_hunt.specs.declared.numbers.Which.{Which}
use Rattle.hp_hunt.proofs.lowering.lower_each.Given as goal

abbrev pub invariant-loop-place : goal.invariant-loop-place
invariant-loop-place g l = record {
  within : l.place ≤ length l.events.items;
  count : length l.events.items ≡ length l.fn.events.items;
  left : IsLeft l.events.items l.fn.events.items;
  meets : SomeRunMeets l.config l.events.items l.conditions;
  smaller : l.done ≡ true → sum_of l.events.items < sum_of l.fn.events.items;
  same : l.done ≡ false → l.events.items ≡ l.fn.events.items;
  lowest : l.done ≡ false → (k : ℕ) (which : Which) → l.place ≤ k → k < length l.events.items
      → IsLowest l.config l.conditions l.events.items k which;
}

abbrev pub decreases-loop-place : goal.decreases-loop-place
decreases-loop-place g l = l.place
