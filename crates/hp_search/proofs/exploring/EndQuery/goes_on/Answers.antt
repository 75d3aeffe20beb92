use Rattle.std.proofs.Common.{◌≡◌, ◌∙◌, List, ap, subst, sym}
use Rattle.hp_every.specs.declared.turn.Turn.{Turn}
use Rattle.hp_every.specs.Endings.{EndState}
use Rattle.hp_every.specs.Search.{HasTurns}
use Rattle.hp_every.proofs.Good.{run_of}
use Rattle.hp_search.specs.Searching.{IsAt, question_of}
use Rattle.hp_search.proofs.exploring.EndQuery.goes_on.Goals as goal

pub follow-requires-clause-may : goal.follow-requires-clause-may
follow-requires-clause-may c =
    let a = question_of c.args.self.now.query in
    let here : c.deref.result.now ≡ c.args.from.now.path.turns =
    c.deref.ensures.value ∙ ((λ i. (c.from-inside.view_is i).path.turns) ∙ ap (λ (s : EndState). s.path.turns) c.from.view_is) in
    subst (HasTurns a) (sym here) (run_of a c.args.from.now.path c.requires.1.path)

pub all_ends_behind-requires-clause-at : goal.all_ends_behind-requires-clause-at
all_ends_behind-requires-clause-at c =
    let a = question_of c.args.self.now.query in
    let here : c.deref.result.now ≡ c.args.from.now.path.turns =
    c.deref.ensures.value ∙ ((λ i. (c.from-inside.view_is i).path.turns) ∙ ap (λ (s : EndState). s.path.turns) c.from.view_is) in (
      c.follow.new.events.items,
      subst (λ (xs : List Turn). IsAt a xs c.follow.new.events.items c.in_ok-position.position) here
          c.in_ok-position.ensures,
    )
