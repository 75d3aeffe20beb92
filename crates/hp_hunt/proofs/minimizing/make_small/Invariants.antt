use Rattle.hp_hunt.specs.Numbers.{IsLeft}
use Rattle.hp_hunt.specs.Lowering.{sum_of}
use Rattle.std.proofs.Common.{◌<◌, ℕ, length}
use Rattle.hp_hunt.specs.Conditions.{SomeRunMeets, SomeRunMisses}
use Rattle.hp_hunt.specs.Cutting.{cut}
use Rattle.hp_hunt.proofs.minimizing.make_small.Given as goal

abbrev pub invariant-loop-events : goal.invariant-loop-events
invariant-loop-events g l = record {
  left : IsLeft l.events.items l.fn.events.items;
  meets : SomeRunMeets l.config l.events.items l.conditions;
  each : (place : ℕ) → place < length l.events.items → SomeRunMisses l.config (cut l.events.items place 1) l.conditions;
}

abbrev pub decreases-loop-events : goal.decreases-loop-events
decreases-loop-events g l = sum_of l.events.items
