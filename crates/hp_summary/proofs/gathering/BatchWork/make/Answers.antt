use Rattle.hp_summary.proofs.Gathered.{facts_there}
use Rattle.hp_summary.proofs.gathering.BatchWork.make.Goals as goal

pub returns : goal.returns
returns c = facts_there c.args.self.now c.args.place c.facts_of_run.result c.facts_of_run.ensures
