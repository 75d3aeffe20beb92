use Rattle.hp_laws.specs.Laws.{LockHoldersWaitForSlots}
use Rattle.hp_core.proofs.Headlines.{law_of}
use Rattle.hp_core.proofs.core_state.Core.a_lock_holder_waits_for_slots_alone.Goals as goal

pub returns : goal.returns
returns c = law_of LockHoldersWaitForSlots c.a_lock_holder_waits_for_slots_alone.ensures _ _ c.self.view_is c.self.invariant
