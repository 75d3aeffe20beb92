use Rattle.std.proofs.Common.{◌+◌, [], List, subst, sym, take}
use Rattle.hp_base.specs.declared.event.Event.{Event}
use Rattle.hp_explore.specs.Schedule.{Plan}
use Rattle.hp_every.specs.declared.turn.Turn.TheVariants.{Next}
use Rattle.hp_every.specs.Schedules.{MayTurn}
use Rattle.hp_search.specs.Searching.{IsAt, IsMade, question_of, place_of}
use Rattle.hp_search.proofs.Made.{at_first, next_made, next_may}
use Rattle.std.specs.Prelude.{slice_index_or}
use Rattle.hp_search.proofs.following.follow.Goals as goal

pub loop-turn-init : goal.loop-turn-init
loop-turn-init c =
    subst (λ (events : List Event). IsAt (question_of c.args.query) [] events c.in_ok-position.position) (sym c.clear.ensures.items)
    (at_first (question_of c.args.query) c.in_ok-position.position c.in_ok-position.ensures.opening c.in_ok-position.ensures.place
    c.in_ok-position.ensures.know c.in_ok-position.ensures.answers)

pub make-requires : goal.make-requires
make-requires c =
    subst (λ (plan : Plan). MayTurn plan (place_of c.loop-turn.position) (slice_index_or c.args.turns.now c.loop-turn.turn-index (Next 0)))
    (sym c.requires.planned)
    (next_may (question_of c.args.query) c.args.turns.now c.loop-turn.turn-index c.loop-turn.events.items c.loop-turn.position (Next 0)
    c.requires.may c.loop-turn-test.true c.loop-turn.invariant)

pub loop-turn-preserved : goal.loop-turn-preserved
loop-turn-preserved c =
    let a = question_of c.args.query in
    let made = subst (λ (plan : Plan). IsMade plan c.loop-turn.position (slice_index_or c.args.turns.now c.loop-turn.turn-index (Next 0))
    c.in_ok-event.event c.make.new.self) c.requires.planned c.in_ok-event.ensures in
    subst (λ (events : List Event). IsAt a (take (c.loop-turn.turn-index + 1) c.args.turns.now) events c.make.new.self)
    (sym c.in_ok-push.ensures.items)
    (next_made a c.args.turns.now c.loop-turn.turn-index c.loop-turn.events.items c.loop-turn.position c.make.new.self (Next 0)
    c.in_ok-event.event c.loop-turn-test.true c.loop-turn.invariant made)
