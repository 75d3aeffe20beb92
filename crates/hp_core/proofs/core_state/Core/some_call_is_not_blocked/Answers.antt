use Rattle.hp_laws.specs.Laws.{SomeCallGoesOn}
use Rattle.hp_core.proofs.Headlines.{law_of}
use Rattle.hp_core.proofs.core_state.Core.some_call_is_not_blocked.Goals as goal

pub returns : goal.returns
returns c = law_of SomeCallGoesOn c.some_call_is_not_blocked.ensures _ _ c.self.view_is c.self.invariant
