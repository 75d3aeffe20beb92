use Rattle.std.proofs.Common.{List, subst, sym}
use Rattle.std.specs.Prelude.{All}
use Rattle.std.specs.List.{AllZip}
use Rattle.hp_explore.specs.Schedule.{Plan}
use Rattle.hp_every.specs.declared.turn.Turn.{Turn}
use Rattle.hp_every.specs.Endings.{GoesBy}
use Rattle.hp_every.specs.Search.{MayGoOn}
use Rattle.hp_every.specs.Turns.{AreAllTurns}
use Rattle.hp_search.specs.Searching.{place_of, question_of}
use Rattle.hp_search.proofs.Closed.{each_behind}
use Rattle.hp_search.proofs.Kept.{goes_on}
use Rattle.hp_search.proofs.Made.{has_at}
use Rattle.hp_search.proofs.closing.all_ends_behind.Goals as goal

pub end_paths_behind-requires-clause-may : goal.end_paths_behind-requires-clause-may
end_paths_behind-requires-clause-may c =
    let a = question_of c.args.query in
    let turns = c.args.from.now.path.turns in
    let p = c.args.position.now in
    let all = subst (λ (plan : Plan). AreAllTurns plan (place_of p) c.in_ok-turns.turns.items) c.requires.planned c.in_ok-turns.ensures.all in
    subst (λ (next : List Turn). All (MayGoOn a turns) next) (sym c.deref.ensures.value)
    (goes_on a turns (has_at a turns c.requires.at.0 p c.requires.at.1) c.in_ok-turns.turns.items all)

pub returns : goal.returns
returns c =
    let a = question_of c.args.query in
    let from = c.args.from.now in
    let turns = from.path.turns in
    let p = c.args.position.now in
    let all = subst (λ (plan : Plan). AreAllTurns plan (place_of p) c.in_ok-turns.turns.items) c.requires.planned c.in_ok-turns.ensures.all in
    each_behind a from c.in_ok-turns.turns.items c.in_ok-next.next.items (has_at a turns c.requires.at.0 p c.requires.at.1) all
    c.in_ok-turns.ensures.apart
    (subst (λ (xs : List Turn). AllZip (GoesBy a from) xs c.in_ok-next.next.items) c.deref.ensures.value c.in_ok-next.ensures)
