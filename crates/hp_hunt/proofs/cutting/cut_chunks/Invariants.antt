use Rattle.std.proofs.Common.{◌≤◌, length}
use Rattle.hp_hunt.specs.Conditions.{SomeRunMeets}
use Rattle.hp_hunt.specs.Cutting.{IsSubsequence}
use Rattle.hp_hunt.proofs.cutting.cut_chunks.Given as goal

abbrev pub invariant-loop-place : goal.invariant-loop-place
invariant-loop-place g l = record {
  within : l.place ≤ length l.events.items;
  left : IsSubsequence l.events.items l.fn.events.items;
  meets : SomeRunMeets l.config l.events.items l.conditions;
}

abbrev pub decreases-loop-place : goal.decreases-loop-place
decreases-loop-place g l = l.place
