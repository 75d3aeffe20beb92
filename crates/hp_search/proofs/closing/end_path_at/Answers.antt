use Rattle.std.proofs.Common.{◌≡◌, ◌∙◌, ◌++◌, List, ap, subst}
use Rattle.hp_explore.specs.Schedule.{Plan}
use Rattle.hp_watch.specs.Moments.{Moment}
use Rattle.hp_key.specs.Packed.{packed}
use Rattle.hp_every.specs.Endings.{IsEnding, answers_in, answers_words}
use Rattle.hp_every.specs.Search.{PathState}
use Rattle.hp_search.specs.Searching.{place_of, question_of}
use Rattle.hp_search.proofs.Closed.{state_is}
use Rattle.hp_search.proofs.closing.end_path_at.Goals as goal

pub returns-clause-state : goal.returns-clause-state
returns-clause-state c =
    let p = c.args.position.now in
    state_is (question_of c.args.query) c.args.turns.items c.requires.at.0 p c.in_ok-path.path c.in_ok-key.key c.in_ok-ending.ending
    c.requires.at.1 c.in_ok-path.ensures.path c.in_ok-path.ensures.turns
    (c.in_ok-key.ensures ∙ ap (λ (s : PathState). packed (answers_words p.answers.ended.items) ++ s.key) c.path.view_is)
    (subst (λ (plan : Plan). (moments : List Moment) → p.answers.ended.items ≡ answers_in moments
    → IsEnding plan moments (place_of p) c.in_ok-ending.ending) c.requires.planned c.in_ok-ending.ensures)
