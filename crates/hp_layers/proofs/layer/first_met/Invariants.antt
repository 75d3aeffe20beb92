use Rattle.std.specs.List.{AllWithin}
use Rattle.hp_layers.proofs.layer.first_met.Given as goal

abbrev pub invariant-loop-place : goal.invariant-loop-place
invariant-loop-place g l = AllWithin (λ s. g.M.Turns.meets l.system s → ⊥) l.layer 0 l.place
