use Rattle.std.proofs.Common.{◌≡◌, length}
use Rattle.hp_conditions.specs.Numbers.{digits_at, digits_from}
use Rattle.hp_conditions.proofs.numbers.digits_at.Given as goal

abbrev pub invariant-loop-rest : goal.invariant-loop-rest
invariant-loop-rest l = digits_from l.value l.rest ≡ digits_at l.text

abbrev pub decreases-loop-rest : goal.decreases-loop-rest
decreases-loop-rest l = length l.rest
