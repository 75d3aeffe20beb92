use Rattle.hp_linux.specs.Rows.{BacksOut}
use Rattle.hp_linux_laws.specs.MayRows.{MayRow}
use Rattle.hp_linux_laws.proofs.Among.{backs_may, runs_among}
use Rattle.hp_linux_laws.proofs.runs_that_back_out_are_among_them.Goals as goal

pub returns : goal.returns
returns c = runs_among BacksOut MayRow backs_may
