use Rattle.hp_laws.proofs.Numbered.{frames_within}
use Rattle.hp_laws.proofs.frames_stay_within_limits.Goals as goal

pub returns : goal.returns
returns c = frames_within
