use Rattle.hp_laws.specs.Laws.{BlockedByHolders}
use Rattle.hp_core.proofs.Headlines.{law_of}
use Rattle.hp_core.proofs.core_state.Core.a_blocked_step_waits_for_a_holder.Goals as goal

pub returns : goal.returns
returns c = law_of BlockedByHolders c.a_blocked_step_waits_for_a_holder.ensures _ _ c.self.view_is c.self.invariant
