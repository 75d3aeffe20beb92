use Rattle.hp_laws.proofs.Apart.{changes_are_calls}
use Rattle.hp_laws.proofs.pending_changes_are_calls.Goals as goal

pub returns : goal.returns
returns c = changes_are_calls
