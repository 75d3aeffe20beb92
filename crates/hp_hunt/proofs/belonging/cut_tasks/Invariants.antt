use Rattle.hp_hunt.specs.Conditions.{SomeRunMeets}
use Rattle.hp_hunt.specs.Cutting.{IsSubsequence}
use Rattle.hp_hunt.proofs.belonging.cut_tasks.Given as goal

abbrev pub invariant-loop-number : goal.invariant-loop-number
invariant-loop-number g l = record {
  left : IsSubsequence l.events.items l.fn.events.items;
  meets : SomeRunMeets l.config l.events.items l.conditions;
}
