use Rattle.hp_laws.specs.Protocol.{LiesWithin}
use Rattle.hp_core.proofs.Headlines.{law_of}
use Rattle.hp_core.proofs.core_state.Core.nothing_lies_beyond_the_limits.Goals as goal

pub returns : goal.returns
returns c = law_of LiesWithin c.nothing_lies_beyond_the_limits.ensures _ _ c.self.view_is c.self.invariant
