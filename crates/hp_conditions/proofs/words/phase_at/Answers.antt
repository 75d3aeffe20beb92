use Rattle.hp_conditions.proofs.Naming.{phase_is}
use Rattle.hp_conditions.proofs.words.phase_at.Goals as goal

pub returns : goal.returns
returns c = phase_is c.args.word.now c.phase_named.result c.phase_named.ensures.some c.phase_named.ensures.none
