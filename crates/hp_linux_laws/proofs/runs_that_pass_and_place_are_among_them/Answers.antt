use Rattle.hp_linux.specs.Rows.{PassesAndPlaces}
use Rattle.hp_linux_laws.specs.MayRows.{MayRow}
use Rattle.hp_linux_laws.proofs.Among.{passes_may, runs_among}
use Rattle.hp_linux_laws.proofs.runs_that_pass_and_place_are_among_them.Goals as goal

pub returns : goal.returns
returns c = runs_among PassesAndPlaces MayRow passes_may
