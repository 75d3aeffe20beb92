use Rattle.hp_laws.specs.Protocol.{HandsApart}
use Rattle.hp_core.proofs.Headlines.{law_of}
use Rattle.hp_core.proofs.core_state.Core.hands_are_apart.Goals as goal

pub returns : goal.returns
returns c = law_of HandsApart c.hands_are_apart.ensures _ _ c.self.view_is c.self.invariant
