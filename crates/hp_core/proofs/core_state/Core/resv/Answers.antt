use Rattle.std.proofs.Common.{◌∙◌, ap}
use Rattle.hp_core.specs.State.{CoreState}
use Rattle.hp_core.specs.Readers.{resv_of}
use Rattle.hp_core.proofs.core_state.Core.resv.Goals as goal

pub returns : goal.returns
unfolding resv_of
returns c = c.resv.ensures.resv ∙ ap (λ (z : CoreState). resv_of z) c.self.view_is
