use Rattle.hp_laws.proofs.Histories.{run_history}
use Rattle.hp_laws.proofs.a_run_has_its_history.Goals as goal

pub returns : goal.returns
returns c = run_history
