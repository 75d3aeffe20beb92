use Rattle.hp_laws.specs.Protocol.{PagesAreReserved}
use Rattle.hp_core.proofs.Headlines.{law_of}
use Rattle.hp_core.proofs.core_state.Core.pages_are_reserved.Goals as goal

pub returns : goal.returns
returns c = law_of PagesAreReserved c.pages_are_reserved.ensures _ _ c.self.view_is c.self.invariant
