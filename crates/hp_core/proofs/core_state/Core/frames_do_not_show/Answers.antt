use Rattle.hp_core.proofs.Alike.{frames_hidden}
use Rattle.hp_core.proofs.core_state.Core.frames_do_not_show.Goals as goal

pub returns : goal.returns
returns c = frames_hidden c.frames_do_not_show.ensures
