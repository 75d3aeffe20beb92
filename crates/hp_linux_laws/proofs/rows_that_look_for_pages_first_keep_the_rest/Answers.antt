use Rattle.hp_linux_laws.proofs.Relaxed.{either_rest, rest_and_below}
use Rattle.hp_linux_laws.proofs.rows_that_look_for_pages_first_keep_the_rest.Goals as goal

pub returns : goal.returns
returns c = record { kept = either_rest; rest = rest_and_below }
