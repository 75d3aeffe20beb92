use Rattle.hp_hunt.proofs.Watched.{fresh}
use Rattle.hp_hunt.proofs.watching.Watch.new.Goals as goal

pub returns-clause-knows : goal.returns-clause-knows
returns-clause-knows c = fresh c.args.condition
