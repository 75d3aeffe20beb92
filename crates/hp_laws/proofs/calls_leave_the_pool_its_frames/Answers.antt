use Rattle.hp_laws.proofs.Numbered.{calls_keep_frames}
use Rattle.hp_laws.proofs.calls_leave_the_pool_its_frames.Goals as goal

pub returns : goal.returns
returns c = calls_keep_frames
