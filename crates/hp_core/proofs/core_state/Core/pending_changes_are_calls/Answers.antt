use Rattle.hp_laws.specs.Protocol.{ChangesAreCalls}
use Rattle.hp_core.proofs.Headlines.{law_of}
use Rattle.hp_core.proofs.core_state.Core.pending_changes_are_calls.Goals as goal

pub returns : goal.returns
returns c = law_of ChangesAreCalls c.pending_changes_are_calls.ensures _ _ c.self.view_is c.self.invariant
