use Rattle.hp_laws.proofs.Losing.{goes_under_lock}
use Rattle.hp_laws.proofs.reservations_go_under_the_lock.Goals as goal

pub returns : goal.returns
returns c = λ s reached event o n f i. goes_under_lock s event o n f i reached
