use Rattle.hp_picture_commands.proofs.Listed.{is_listed}
use Rattle.hp_picture_commands.proofs.laws.a_cores_picture_is_listed.Goals as goal

pub returns : goal.returns
returns c = is_listed
