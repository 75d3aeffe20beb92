use Rattle.std.proofs.Common.{length}
use Rattle.hp_hunt.specs.Conditions.{SomeRunMeets}
use Rattle.hp_hunt.specs.Cutting.{IsSubsequence}
use Rattle.hp_hunt.proofs.cutting.cut_all.Given as goal

abbrev pub invariant-loop : goal.invariant-loop
invariant-loop g l = record {
  left : IsSubsequence l.events.items l.fn.events.items;
  meets : SomeRunMeets l.config l.events.items l.conditions;
}

abbrev pub decreases-loop : goal.decreases-loop
decreases-loop g l = length l.events.items
