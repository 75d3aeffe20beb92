-- of what is left no event from that place on can go, where none went
use Rattle.std.proofs.Common.{◌≡◌, ℕ, ◌≤◌, ◌<◌, length}
use Rattle.std.specs.Prelude.{true, false}
use Rattle.hp_hunt.specs.Conditions.{SomeRunMeets, SomeRunMisses}
use Rattle.hp_hunt.specs.Cutting.{IsSubsequence, cut}
use Rattle.hp_hunt.proofs.cutting.cut_each.Given as goal

abbrev pub invariant-loop-place : goal.invariant-loop-place
invariant-loop-place g l = record {
  within : l.place ≤ length l.events.items;
  left : IsSubsequence l.events.items l.fn.events.items;
  meets : SomeRunMeets l.config l.events.items l.conditions;
  fewer : l.done ≡ true → length l.events.items < length l.fn.events.items;
  no_more : length l.events.items ≤ length l.fn.events.items;
  none : l.done ≡ false → (k : ℕ) → l.place ≤ k → k < length l.events.items
      → SomeRunMisses l.config (cut l.events.items k 1) l.conditions;
}

abbrev pub decreases-loop-place : goal.decreases-loop-place
decreases-loop-place g l = l.place
