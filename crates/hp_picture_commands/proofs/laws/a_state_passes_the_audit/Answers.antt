use Rattle.hp_picture_commands.proofs.Listed.{audit_is_right, audit_writes_none}
use Rattle.hp_picture_commands.proofs.laws.a_state_passes_the_audit.Goals as goal

pub returns-clause-right : goal.returns-clause-right
returns-clause-right c = audit_is_right

pub returns-clause-wrote : goal.returns-clause-wrote
returns-clause-wrote c = audit_writes_none
