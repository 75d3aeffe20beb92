use Rattle.hp_picture_commands.proofs.Listed.{no_finding}
use Rattle.hp_picture_commands.proofs.laws.a_state_has_no_finding.Goals as goal

pub returns : goal.returns
returns c = no_finding
