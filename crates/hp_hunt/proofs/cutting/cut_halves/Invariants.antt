use Rattle.hp_hunt.specs.Conditions.{SomeRunMeets}
use Rattle.hp_hunt.specs.Cutting.{IsSubsequence}
use Rattle.hp_hunt.proofs.cutting.cut_halves.Given as goal

abbrev pub invariant-loop-chunk : goal.invariant-loop-chunk
invariant-loop-chunk g l = record {
  left : IsSubsequence l.events.items l.fn.events.items;
  meets : SomeRunMeets l.config l.events.items l.conditions;
}

abbrev pub decreases-loop-chunk : goal.decreases-loop-chunk
decreases-loop-chunk g l = l.chunk
