use Rattle.hp_sequential.proofs.Runs.{frames_hidden}
use Rattle.hp_sequential.proofs.frames_do_not_show.Goals as goal

pub returns : goal.returns
returns c = frames_hidden
