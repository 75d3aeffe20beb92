use Rattle.hp_accounts.proofs.Balancing.{lost_at_rest}
use Rattle.hp_accounts.proofs.a_count_is_only_lost.Goals as goal

pub returns : goal.returns
returns c = λ g frames es m rest. lost_at_rest g frames es m rest
