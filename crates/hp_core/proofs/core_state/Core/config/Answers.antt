use Rattle.std.proofs.Common.{ap}
use Rattle.hp_core.specs.State.{CoreState}
use Rattle.hp_core.specs.Readers.{config_of}
use Rattle.hp_core.proofs.core_state.Core.config.Goals as goal

pub returns : goal.returns
unfolding config_of
returns c = ap (λ (s : CoreState). s.sizes) c.self.view_is
