-- Each event is a moment more.
use Rattle.std.proofs.Common.{◌≡◌, ◌+◌, ◌++◌, ◌∷◌, [], List, take, refl, sym, ap, subst, ◌∙◌}
use Rattle.std.proofs.lemmas.List.{take_all, take_more}
use Rattle.hp_base.specs.declared.event.Event.{Event}
use Rattle.hp_hunt.specs.Watching.{known_of}
use Rattle.hp_hunt.proofs.Watched.{IsWatched, judged, watch_goes_on, watch_starts}
use Rattle.hp_hunt.proofs.meeting.meets.Goals as goal

pub loop-event-init : goal.loop-event-init
loop-event-init c =
    watch_starts c.args.config c.args.conditions.now [] c.in_ok-core.core (known_of c.in_ok-watches.watches) c.in_ok-core.ensures.opening refl
    c.in_ok-watches.ensures

pub loop-event-preserved : goal.loop-event-preserved
loop-event-preserved c =
    let events = c.args.events.now in
    let n = c.loop-event.event-index in
    let e = c.event-item.result in
    let more : take (n + 1) events ≡ take n events ++ e ∷ [] =
    take_more events n e c.loop-event-test.true ∙ ap (λ (x : Event). take n events ++ x ∷ []) (sym c.event-item.is) in
    watch_goes_on c.args.config c.args.conditions.now (take n events) (take (n + 1) events) c.loop-event.core c.step.new.self
    (known_of c.loop-event.watches) (known_of c.see.new.self) e c.in_ok-outcome.outcome c.loop-event.invariant c.in_ok-outcome.ensures.row
    more c.in_ok-see.ensures

pub returns : goal.returns
returns c =
    let events = c.args.events.now in
    let watched = subst (λ (es : List Event). IsWatched c.args.config c.args.conditions.now es c.loop-event.core (known_of c.loop-event.watches))
    (take_all c.loop-event.event-index events c.loop-event-test.false) c.loop-event.invariant in
    judged c.args.config c.args.conditions.now events c.loop-event.core (known_of c.loop-event.watches) c.are_met.result watched
    c.are_met.ensures.met c.are_met.ensures.missed
