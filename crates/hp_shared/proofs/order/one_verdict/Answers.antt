use Rattle.hp_shared.proofs.Verdicts as verdicts
use Rattle.hp_shared.proofs.order.one_verdict.Goals as goal

pub returns : goal.returns
returns c p journal lists n good bad = verdicts.one_verdict p journal lists n good bad
