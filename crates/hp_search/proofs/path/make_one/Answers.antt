use Rattle.std.proofs.Common.{◌∷◌, ◌++◌, [], List, subst, sym}
use Rattle.hp_explore.specs.Schedule.{Plan}
use Rattle.hp_every.specs.declared.turn.Turn.{Turn}
use Rattle.hp_every.specs.Schedules.{MayTurn}
use Rattle.hp_search.specs.Searching.{IsAt, IsMade, question_of, place_of}
use Rattle.hp_search.proofs.Kept.{behind_may}
use Rattle.hp_search.proofs.Made.{at_more}
use Rattle.hp_search.proofs.path.make_one.Goals as goal

pub make-requires : goal.make-requires
make-requires c =
    let a = question_of c.args.query in
    subst (λ (plan : Plan). MayTurn plan (place_of c.args.position.now) c.args.turn) (sym c.requires.planned)
    (behind_may a c.args.turns.now c.requires.at.0 c.args.position.now c.args.turn c.requires.may c.requires.at.1)

pub returns-clause-at : goal.returns-clause-at
returns-clause-at c =
    let a = question_of c.args.query in
    let events = c.requires.at.0 in
    let turn = c.args.turn in
    let made = subst (λ (plan : Plan). IsMade plan c.args.position.now turn c.in_ok-make.field-0 c.make.new.self) c.requires.planned
    c.in_ok-make.ensures in
    let more = at_more a c.args.turns.now events c.args.position.now c.make.new.self turn c.in_ok-make.field-0 c.requires.at.1 made in (
      events ++ c.in_ok-make.field-0 ∷ [],
      subst (λ (xs : List Turn). IsAt a xs (events ++ c.in_ok-make.field-0 ∷ []) c.make.new.self) (sym c.in_ok-longer.ensures) more,
    )
