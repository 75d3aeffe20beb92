use Rattle.hp_laws.specs.Laws.{TouchNeverLacks}
use Rattle.hp_core.proofs.Headlines.{law_of}
use Rattle.hp_core.proofs.core_state.Core.a_touch_that_misses_nothing_never_lacks_a_frame.Goals as goal

pub returns : goal.returns
returns c = law_of TouchNeverLacks c.a_touch_that_misses_nothing_never_lacks_a_frame.ensures _ _ c.self.view_is c.self.invariant
