use Rattle.std.proofs.Common.{subst}
use Rattle.hp_machine.specs.Events.{IsReached}
use Rattle.hp_core.specs.State.{CoreState, as_state}
use Rattle.hp_core.proofs.Headlines.{reached_of}
use Rattle.hp_core.proofs.core_state.Core.is_reached.Goals as goal

pub returns : goal.returns
returns c = subst (λ (s : CoreState). IsReached (as_state s)) c.self.view_is (reached_of _ c.self.invariant)
