use Rattle.hp_laws.specs.Protocol.{BareWhereMade}
use Rattle.hp_core.proofs.Headlines.{law_of}
use Rattle.hp_core.proofs.core_state.Core.pages_are_made_where_none_is.Goals as goal

pub returns : goal.returns
returns c = law_of BareWhereMade c.pages_are_made_where_none_is.ensures _ _ c.self.view_is c.self.invariant
