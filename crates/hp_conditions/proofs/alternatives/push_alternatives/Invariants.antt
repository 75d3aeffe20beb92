use Rattle.std.proofs.Common.{◌≡◌}
use Rattle.hp_conditions.specs.Sought.{add_each, alternatives_behind}
use Rattle.hp_conditions.proofs.Adding.{how_much, pieces_left}
use Rattle.hp_conditions.proofs.alternatives.push_alternatives.Given as goal

-- what is left is added to what was read
abbrev pub invariant-loop-left : goal.invariant-loop-left
invariant-loop-left l = add_each l.kind l.choice l.conditions.items (pieces_left l.left) ≡ alternatives_behind l.kind l.fn.conditions.items l.text

abbrev pub decreases-loop-left : goal.decreases-loop-left
decreases-loop-left l = how_much l.left
