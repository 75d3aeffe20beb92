use Rattle.std.proofs.Common.{◌∙◌, ap}
use Rattle.hp_core.specs.State.{CoreState}
use Rattle.hp_core.specs.Readers.{quota_of}
use Rattle.hp_core.proofs.core_state.Core.quota.Goals as goal

pub returns : goal.returns
unfolding quota_of
returns c = c.quota.ensures ∙ ap (λ (z : CoreState). quota_of z) c.self.view_is
