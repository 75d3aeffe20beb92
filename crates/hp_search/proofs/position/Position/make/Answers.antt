use Rattle.std.proofs.Common.{◌∷◌, subst, sym}
use Rattle.hp_core.specs.State.{CoreState}
use Rattle.hp_hunt.specs.Watching.{AllKnow, known_of}
use Rattle.hp_search.proofs.Made.{answers_seen, made_of, told_some}
use Rattle.hp_watch.specs.Calls.{AreCalls}
use Rattle.hp_watch.specs.declared.calls.Calls.{Calls}
use Rattle.hp_search.proofs.position.Position.make.Goals as goal

pub returns : goal.returns
returns c =
    made_of c.args.plan.now c.args.self.now c.choose-event.new.self c.args.turn c.choose-event.result c.in_ok-outcome.outcome
    c.apply.new.self c.see.new.self c.see-2.new.self c.choose-event.ensures.chosen c.choose-event.ensures.core c.choose-event.ensures.watches
    c.choose-event.ensures.answers c.in_ok-outcome.ensures.row c.in_ok-outcome.ensures.stays
    (λ conditions before know. subst (λ (s : CoreState). AllKnow conditions (known_of c.see.new.self)
    (record { event = c.choose-event.result; outcome = c.in_ok-outcome.outcome; core = s } ∷ before)) c.core.ensures.core
    (c.in_ok-see.ensures conditions before know))
    (λ before calls. answers_seen c.ended_by-ended.result before c.choose-event.result c.in_ok-outcome.outcome
    c.choose-event.new.self.answers.ended.items c.see-2.new.self.ended.items
    (told_some c.ended_by-ended.result c.calls.result.now.tasks.items before c.choose-event.result c.in_ok-outcome.outcome
    (subst (λ (ws : Calls). AreCalls ws.tasks.items before) (sym c.calls.ensures) calls) c.ended_by-ended.ensures.some)
    (λ none. c.ended_by-ended.ensures.none none before) c.in_ok-see-2.ensures.some c.in_ok-see-2.ensures.none)
