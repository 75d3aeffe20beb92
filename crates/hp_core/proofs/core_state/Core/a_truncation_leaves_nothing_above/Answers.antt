use Rattle.hp_laws.specs.Laws.{TruncationCuts}
use Rattle.hp_core.proofs.Headlines.{law_of}
use Rattle.hp_core.proofs.core_state.Core.a_truncation_leaves_nothing_above.Goals as goal

pub returns : goal.returns
returns c = law_of TruncationCuts c.a_truncation_leaves_nothing_above.ensures _ _ c.self.view_is c.self.invariant
