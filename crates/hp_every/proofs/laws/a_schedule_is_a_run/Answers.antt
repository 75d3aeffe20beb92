use Rattle.hp_every.proofs.Runs.{run_of}
use Rattle.hp_every.proofs.laws.a_schedule_is_a_run.Goals as goal

pub returns : goal.returns
returns c = run_of
