use Rattle.std.proofs.Common.{take, refl, sym, ap, ◌∙◌, ◌++◌, ◌∷◌, []}
use Rattle.std.proofs.lemmas.List.{take_more}
use Rattle.hp_base.specs.declared.event.Event.{Event}
use Rattle.hp_format.proofs.Led.{led_more, led_none}
use Rattle.hp_format.proofs.draft.core_after.Goals as goal

pub loop-event-init : goal.loop-event-init
loop-event-init c = led_none c.args.config c.in_ok-core.core _ c.in_ok-core.ensures.opening refl

pub loop-event-preserved : goal.loop-event-preserved
loop-event-preserved c =
    led_more c.args.config c.loop-event.core c.step.new.self (take c.loop-event.event-index c.args.events.now) _ _ c.in_ok-step.field-0
    c.loop-event.invariant c.in_ok-step.ensures.row
    (take_more c.args.events.now c.loop-event.event-index c.event-item.result c.loop-event-test.true
    ∙ ap (λ (event : Event). take c.loop-event.event-index c.args.events.now ++ event ∷ []) (sym c.event-item.is))
