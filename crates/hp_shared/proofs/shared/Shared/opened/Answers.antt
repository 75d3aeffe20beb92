use Rattle.hp_shared.proofs.Runs.{opening_sizes}
use Rattle.hp_shared.proofs.shared.Shared.opened.Goals as goal

pub locked-requires : goal.locked-requires
locked-requires g c = opening_sizes c.args.config c.args.pool.core c.requires.opening
