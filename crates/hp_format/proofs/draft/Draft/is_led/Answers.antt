use Rattle.std.proofs.Common.{ap, subst}
use Rattle.hp_format.specs.Drafts.{DraftState, IsLed}
use Rattle.hp_format.proofs.draft.Draft.is_led.Goals as goal

pub returns : goal.returns
returns c = (
  c.self.inside.config,
  ap (λ (d : DraftState). d.sizes) c.self.view_is,
  subst (λ (d : DraftState). IsLed c.self.inside.config d.core d.events) c.self.view_is c.self.invariant.led,
)
