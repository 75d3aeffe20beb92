use Rattle.hp_laws.proofs.Apart.{holds_nothing}
use Rattle.hp_laws.proofs.a_pool_at_rest_holds_nothing.Goals as goal

pub returns : goal.returns
returns c = holds_nothing
