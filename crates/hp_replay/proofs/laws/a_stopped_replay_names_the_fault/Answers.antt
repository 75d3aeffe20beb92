use Rattle.hp_replay.proofs.StoppedFaults.{stopped_fault}
use Rattle.hp_replay.proofs.laws.a_stopped_replay_names_the_fault.Goals as goal

pub returns : goal.returns
returns c = stopped_fault
