use Rattle.hp_linux_laws.proofs.Relaxed.{relaxed_never_short}
use Rattle.hp_linux_laws.proofs.relaxed_rows_never_fall_short.Goals as goal

pub returns : goal.returns
returns c = relaxed_never_short
