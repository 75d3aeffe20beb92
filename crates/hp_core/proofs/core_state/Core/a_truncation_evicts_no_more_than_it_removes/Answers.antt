use Rattle.hp_laws.specs.Laws.{EvictsFew}
use Rattle.hp_core.proofs.Headlines.{law_of}
use Rattle.hp_core.proofs.core_state.Core.a_truncation_evicts_no_more_than_it_removes.Goals as goal

pub returns : goal.returns
returns c = law_of EvictsFew c.a_truncation_evicts_no_more_than_it_removes.ensures _ _ c.self.view_is c.self.invariant
