use Rattle.hp_laws.specs.Laws.{AllocTakes}
use Rattle.hp_core.proofs.Headlines.{law_of}
use Rattle.hp_core.proofs.core_state.Core.an_alloc_that_misses_nothing_takes_a_frame.Goals as goal

pub returns : goal.returns
returns c = law_of AllocTakes c.an_alloc_that_misses_nothing_takes_a_frame.ensures _ _ c.self.view_is c.self.invariant
