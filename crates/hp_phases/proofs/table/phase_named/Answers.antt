use Rattle.std.proofs.Common.{◌∙◌, ap, arith}
use Rattle.hp_machine.specs.Text.{phase_word}
use Rattle.hp_phases.specs.Phases.{place_of}
use Rattle.hp_phases.proofs.Places.{there}
use Rattle.hp_phases.proofs.table.phase_named.Goals as goal

pub returns-clause-none : goal.returns-clause-none
returns-clause-none c = λ none p e.
    c.loop-place.invariant (place_of p) (omega (arith, (there p).0, c.loop-place-test.false)) (ap phase_word (there p).1 ∙ e)
