use Rattle.hp_laws.specs.Laws.{LosesUnderLock}
use Rattle.hp_core.proofs.Headlines.{law_of}
use Rattle.hp_core.proofs.core_state.Core.reservations_go_under_the_lock.Goals as goal

pub returns : goal.returns
returns c = law_of LosesUnderLock c.reservations_go_under_the_lock.ensures _ _ c.self.view_is c.self.invariant
