use Rattle.hp_laws.proofs.Apart.{passed_is_bare}
use Rattle.hp_laws.proofs.passed_indices_stay_bare.Goals as goal

pub returns : goal.returns
returns c = passed_is_bare
