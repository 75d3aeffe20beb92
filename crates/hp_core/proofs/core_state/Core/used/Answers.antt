use Rattle.std.proofs.Common.{◌∙◌, ap}
use Rattle.hp_core.specs.State.{CoreState}
use Rattle.hp_core.specs.Readers.{used_of}
use Rattle.hp_core.proofs.core_state.Core.used.Goals as goal

pub returns : goal.returns
unfolding used_of
returns c = c.used.ensures.used ∙ ap (λ (z : CoreState). used_of z) c.self.view_is
