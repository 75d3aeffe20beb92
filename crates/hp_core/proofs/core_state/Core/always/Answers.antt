use Rattle.std.proofs.Common.{subst}
use Rattle.hp_core.specs.State.{CoreState}
use Rattle.hp_core.specs.Runs.{Headline, IsOfConfig}
use Rattle.hp_core.proofs.Headlines.{headline_of, of_config}
use Rattle.hp_core.proofs.core_state.Core.always.Goals as goal

pub returns : goal.returns
returns c = record {
  headline = subst Headline c.self.view_is (headline_of _ c.self.invariant);
  config = subst (λ (s : CoreState). IsOfConfig s) c.self.view_is (of_config _ c.self.invariant);
}
