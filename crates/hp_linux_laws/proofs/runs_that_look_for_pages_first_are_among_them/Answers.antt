use Rattle.hp_linux.specs.Rows.{LooksForPagesFirst}
use Rattle.hp_linux_laws.specs.MayRows.{MayRow}
use Rattle.hp_linux_laws.proofs.Among.{first_may, runs_among}
use Rattle.hp_linux_laws.proofs.runs_that_look_for_pages_first_are_among_them.Goals as goal

pub returns : goal.returns
returns c = runs_among LooksForPagesFirst MayRow first_may
