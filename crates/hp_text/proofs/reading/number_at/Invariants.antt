use Rattle.std.proofs.Common.{◌≡◌, ◌≤◌, length}
use Rattle.hp_text.specs.Reading.{number_at, number_from}
use Rattle.hp_text.proofs.reading.number_at.Given as goal

abbrev pub invariant-loop-rest : goal.invariant-loop-rest
invariant-loop-rest l = (l.value ≤ l.most) × (number_from l.most l.value l.rest ≡ number_at l.most l.bytes)

abbrev pub decreases-loop-rest : goal.decreases-loop-rest
decreases-loop-rest l = length l.rest
