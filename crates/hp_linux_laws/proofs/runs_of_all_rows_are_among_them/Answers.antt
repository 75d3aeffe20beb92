use Rattle.hp_linux.specs.Rows.{LinuxRows}
use Rattle.hp_linux_laws.specs.MayRows.{MayRow}
use Rattle.hp_linux_laws.proofs.Among.{linux_may, runs_among}
use Rattle.hp_linux_laws.proofs.runs_of_all_rows_are_among_them.Goals as goal

pub returns : goal.returns
returns c = runs_among LinuxRows MayRow linux_may
