use Rattle.hp_every.proofs.Alike.{alike_turn}
use Rattle.hp_every.proofs.laws.names_of_frames_change_no_turn.Goals as goal

pub returns : goal.returns
returns c = alike_turn
