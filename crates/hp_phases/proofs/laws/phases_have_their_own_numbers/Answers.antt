use Rattle.std.proofs.Common.{arith}
use Rattle.hp_phases.proofs.Places.{one_number}
use Rattle.hp_phases.proofs.laws.phases_have_their_own_numbers.Goals as goal

pub returns-clause-own : goal.returns-clause-own
returns-clause-own c = one_number

pub returns-clause-there : goal.returns-clause-there
returns-clause-there c = λ p e. absurd (omega (arith, e))
