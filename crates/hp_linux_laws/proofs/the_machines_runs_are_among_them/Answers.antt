use Rattle.hp_machine.specs.Events.{CallRow}
use Rattle.hp_linux_laws.specs.MayRows.{MayRow}
use Rattle.hp_linux_laws.proofs.Among.{machine_may, runs_among}
use Rattle.hp_linux_laws.proofs.the_machines_runs_are_among_them.Goals as goal

pub returns : goal.returns
returns c = runs_among CallRow MayRow machine_may
