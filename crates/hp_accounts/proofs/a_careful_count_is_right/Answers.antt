use Rattle.hp_accounts.proofs.Reserving.{right_at_rest}
use Rattle.hp_accounts.proofs.a_careful_count_is_right.Goals as goal

pub returns : goal.returns
returns c = λ g frames es m careful none rest. right_at_rest g frames es m careful none rest
