use Rattle.hp_sequential.specs.Meaning.{CallsAloneMean}
use Rattle.hp_core.proofs.Headlines.{law_of}
use Rattle.hp_core.proofs.core_state.Core.a_call_alone_has_its_plain_meaning.Goals as goal

pub returns : goal.returns
returns c = law_of CallsAloneMean c.a_call_alone_has_its_plain_meaning.ensures _ _ c.self.view_is c.self.invariant
