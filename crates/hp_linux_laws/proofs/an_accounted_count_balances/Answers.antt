use Rattle.hp_linux_laws.specs.Laws.{IsBalanced}
use Rattle.hp_linux_laws.proofs.Claims.{balances, by_accounted}
use Rattle.hp_linux_laws.proofs.an_accounted_count_balances.Goals as goal

pub returns : goal.returns
returns c = by_accounted IsBalanced balances
