use Rattle.std.proofs.Common.{◌≡◌, List, subst}
use Rattle.std.specs.Prelude.{◌↔◌, true}
use Rattle.hp_core.specs.State.{CoreState}
use Rattle.hp_watch.specs.Moments.{Moment, last_of}
use Rattle.hp_explore.specs.Schedule.{Plan}
use Rattle.hp_hunt.specs.Watching.{AllKnow, known_of}
use Rattle.hp_every.specs.Search.{MeetsHere}
use Rattle.hp_search.specs.Searching.{question_of, place_of}
use Rattle.hp_search.proofs.Kept.{path_is}
use Rattle.hp_search.proofs.path.path_at.Goals as goal

pub returns-clause-path : goal.returns-clause-path
returns-clause-path c =
    let p = c.args.position.now in
    let conditions = c.args.query.conditions.now in
    path_is (question_of c.args.query) c.args.turns.items c.requires.at.0 p c.in_ok-key.key c.in_ok-met.met c.requires.at.1 c.in_ok-key.ensures
    (subst (λ (plan : Plan). (first : CoreState) (moments : List Moment) → p.walk.core ≡ last_of first moments
    → AllKnow conditions (known_of p.watches) moments → (c.in_ok-met.met ≡ true ↔ MeetsHere plan conditions first moments (place_of p)))
    c.requires.planned c.in_ok-met.ensures)
