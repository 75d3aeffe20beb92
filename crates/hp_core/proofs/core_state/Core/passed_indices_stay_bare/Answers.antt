use Rattle.hp_laws.specs.Protocol.{PassedIsBare}
use Rattle.hp_core.proofs.Headlines.{law_of}
use Rattle.hp_core.proofs.core_state.Core.passed_indices_stay_bare.Goals as goal

pub returns : goal.returns
returns c = law_of PassedIsBare c.passed_indices_stay_bare.ensures _ _ c.self.view_is c.self.invariant
