use Rattle.std.proofs.Common.{List, subst, sym}
use Rattle.std.specs.Prelude.{All}
use Rattle.hp_explore.specs.Schedule.{Plan}
use Rattle.hp_every.specs.declared.turn.Turn.{Turn}
use Rattle.hp_every.specs.Search.{AreBehind, MayGoOn}
use Rattle.hp_every.specs.Eager.{AreTried}
use Rattle.hp_every.proofs.Tried.{all_tried}
use Rattle.hp_search.specs.Searching.{place_of, question_of}
use Rattle.hp_search.proofs.Kept.{tries_on}
use Rattle.hp_search.proofs.Made.{has_at}
use Rattle.hp_search.proofs.path.all_behind.Goals as goal

pub paths_behind-requires-clause-may : goal.paths_behind-requires-clause-may
paths_behind-requires-clause-may c =
    let a = question_of c.args.query in
    let turns = c.args.path.now.turns in
    let p = c.args.position.now in
    let eager = c.args.query.eager in
    let all = subst (λ (plan : Plan). AreTried plan (place_of p) eager c.in_ok-turns.turns.items) c.requires.planned c.in_ok-turns.ensures in
    subst (λ (next : List Turn). All (MayGoOn a turns) next) (sym c.deref.ensures.value)
    (tries_on a eager turns (has_at a turns c.requires.at.0 p c.requires.at.1) c.in_ok-turns.turns.items all)

pub returns : goal.returns
returns c =
    let a = question_of c.args.query in
    let turns = c.args.path.now.turns in
    let p = c.args.position.now in
    let eager = c.args.query.eager in
    let all = subst (λ (plan : Plan). AreTried plan (place_of p) eager c.in_ok-turns.turns.items) c.requires.planned c.in_ok-turns.ensures in
    all_tried a eager c.args.path.now (has_at a turns c.requires.at.0 p c.requires.at.1) c.in_ok-turns.turns.items c.in_ok-next.next.items all
    (subst (λ (xs : List Turn). AreBehind a c.args.path.now xs c.in_ok-next.next.items) c.deref.ensures.value c.in_ok-next.ensures)
