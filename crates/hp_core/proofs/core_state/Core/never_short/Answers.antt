use Rattle.hp_laws.specs.Laws.{NeverShort}
use Rattle.hp_core.proofs.Headlines.{law_of}
use Rattle.hp_core.proofs.core_state.Core.never_short.Goals as goal

pub returns : goal.returns
returns c = law_of NeverShort c.never_short.ensures _ _ c.self.view_is c.self.invariant
