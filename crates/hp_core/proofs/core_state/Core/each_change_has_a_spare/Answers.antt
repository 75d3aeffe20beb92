use Rattle.hp_laws.specs.Protocol.{SparesSuffice}
use Rattle.hp_core.proofs.Headlines.{law_of}
use Rattle.hp_core.proofs.core_state.Core.each_change_has_a_spare.Goals as goal

pub returns : goal.returns
returns c = law_of SparesSuffice c.each_change_has_a_spare.ensures _ _ c.self.view_is c.self.invariant
