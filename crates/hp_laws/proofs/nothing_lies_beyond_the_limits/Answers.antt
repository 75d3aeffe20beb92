use Rattle.hp_laws.proofs.Apart.{lies_within}
use Rattle.hp_laws.proofs.nothing_lies_beyond_the_limits.Goals as goal

pub returns : goal.returns
returns c = lies_within
