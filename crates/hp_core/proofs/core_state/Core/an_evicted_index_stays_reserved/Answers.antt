use Rattle.hp_laws.specs.Laws.{EvictedStays}
use Rattle.hp_core.proofs.Headlines.{law_of}
use Rattle.hp_core.proofs.core_state.Core.an_evicted_index_stays_reserved.Goals as goal

pub returns : goal.returns
returns c = law_of EvictedStays c.an_evicted_index_stays_reserved.ensures _ _ c.self.view_is c.self.invariant
