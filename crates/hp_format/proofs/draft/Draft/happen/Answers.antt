use Rattle.std.proofs.Common.{arith, ◌≡◌, ◌++◌, ◌∷◌, [], List, length, ap, ◌∙◌}
use Rattle.hp_base.specs.declared.event.Event.{Event}
use Rattle.hp_format.specs.Drafts.{DraftState}
use Rattle.hp_format.proofs.Led.{led_more, one_longer}
use Rattle.hp_format.proofs.draft.Draft.happen.Goals as goal

pub invariant_of-self-2 : goal.invariant_of-self-2
invariant_of-self-2 c =
    let all : c.push_reserved.new.self.items ≡ c.self.inside.events.items ++ c.args.event.now ∷ [] =
    c.push_reserved.ensures.items ∙ ap (λ (events : List Event). events ++ c.args.event.now ∷ []) c.in_ok-reserve.ensures.items in
    record {
      led = led_more c.self.inside.config _ c.step.new.self c.self.inside.events.items c.push_reserved.new.self.items c.args.event.now
          c.in_ok-outcome.outcome c.self.invariant.led c.in_ok-outcome.ensures.row all;
      few = omega (arith, one_longer _ _ _ all, c.requires, ap (λ (d : DraftState). length d.events) c.self.view_is);
    }
