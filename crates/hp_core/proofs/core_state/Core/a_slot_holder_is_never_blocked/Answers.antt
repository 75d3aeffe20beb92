use Rattle.hp_laws.specs.Laws.{SlotHoldersGoOn}
use Rattle.hp_core.proofs.Headlines.{law_of}
use Rattle.hp_core.proofs.core_state.Core.a_slot_holder_is_never_blocked.Goals as goal

pub returns : goal.returns
returns c = law_of SlotHoldersGoOn c.a_slot_holder_is_never_blocked.ensures _ _ c.self.view_is c.self.invariant
