use Rattle.hp_laws.proofs.Runs.{headline}
use Rattle.hp_laws.proofs.headline.Goals as goal

pub returns : goal.returns
returns c = headline
