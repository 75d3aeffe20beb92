use Rattle.hp_linux_laws.proofs.Relaxed.{either_never_short}
use Rattle.hp_linux_laws.proofs.rows_that_look_for_pages_first_never_fall_short.Goals as goal

pub returns : goal.returns
returns c = either_never_short
