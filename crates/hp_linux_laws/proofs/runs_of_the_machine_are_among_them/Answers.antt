use Rattle.hp_linux_laws.proofs.Owing.{machine_runs}
use Rattle.hp_linux_laws.proofs.runs_of_the_machine_are_among_them.Goals as goal

pub returns : goal.returns
returns c = machine_runs
