use Rattle.hp_agree.proofs.Agreement.{agree_in_limit, agree_on_listed}
use Rattle.hp_agree.proofs.laws.the_audits_agree.Goals as goal

pub returns-clause-listed : goal.returns-clause-listed
returns-clause-listed c = agree_on_listed

pub returns-clause-in_limit : goal.returns-clause-in_limit
returns-clause-in_limit c = agree_in_limit
