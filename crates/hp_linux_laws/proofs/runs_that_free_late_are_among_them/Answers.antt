use Rattle.hp_linux.specs.Rows.{FreesLate}
use Rattle.hp_linux_laws.specs.MayRows.{MayRow}
use Rattle.hp_linux_laws.proofs.Among.{late_may, runs_among}
use Rattle.hp_linux_laws.proofs.runs_that_free_late_are_among_them.Goals as goal

pub returns : goal.returns
returns c = runs_among FreesLate MayRow late_may
