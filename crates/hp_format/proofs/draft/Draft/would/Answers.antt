use Rattle.std.proofs.Common.{ap, subst}
use Rattle.hp_format.specs.Drafts.{DraftState, IsLed}
use Rattle.hp_format.proofs.draft.Draft.would.Goals as goal

pub returns : goal.returns
returns c = record {
  config = c.self.inside.config;
  sizes_are = ap (λ (d : DraftState). d.sizes) c.self.view_is;
  core = c.in_ok-core.core;
  led = subst (IsLed c.self.inside.config c.in_ok-core.core) (ap (λ (d : DraftState). d.events) c.self.view_is)
      (subst (IsLed c.self.inside.config c.in_ok-core.core) c.as_slice.ensures.value c.in_ok-core.ensures);
  new = c.step.new.self;
  row = c.in_ok-outcome.ensures.row;
}
