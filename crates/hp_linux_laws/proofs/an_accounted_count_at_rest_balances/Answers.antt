use Rattle.hp_linux_laws.specs.Laws.{IsBalancedAtRest}
use Rattle.hp_linux_laws.proofs.Claims.{balances_at_rest, by_accounted}
use Rattle.hp_linux_laws.proofs.an_accounted_count_at_rest_balances.Goals as goal

pub returns : goal.returns
returns c = by_accounted IsBalancedAtRest balances_at_rest
