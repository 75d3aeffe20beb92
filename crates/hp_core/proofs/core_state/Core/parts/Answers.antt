use Rattle.std.proofs.Common.{subst}
use Rattle.hp_core.specs.State.{CoreState}
use Rattle.hp_core.specs.Sound.{IsKept, IsSound}
use Rattle.hp_core.proofs.core_state.Core.parts.Goals as goal

pub returns-clause-kept : goal.returns-clause-kept
unfolding IsSound
returns-clause-kept c = subst (λ (s : CoreState). IsKept s) c.self.view_is c.self.invariant.1
