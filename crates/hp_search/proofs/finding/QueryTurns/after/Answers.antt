use Rattle.std.proofs.Common.{◌≡◌, ◌∙◌, List, ap, subst}
use Rattle.hp_every.specs.declared.turn.Turn.{Turn}
use Rattle.hp_every.specs.Search.{PathState}
use Rattle.hp_search.specs.Searching.{IsAt, question_of}
use Rattle.hp_search.proofs.finding.QueryTurns.after.Goals as goal

pub all_behind-requires-clause-at : goal.all_behind-requires-clause-at
all_behind-requires-clause-at c =
    let a = question_of c.args.self.now in
    let here : c.deref.result.now ≡ c.args.path.now.turns = c.deref.ensures.value ∙ ap (λ (s : PathState). s.turns) c.path.view_is in (
      c.follow.new.events.items,
      subst (λ (xs : List Turn). IsAt a xs c.follow.new.events.items c.in_ok-position.position) here
          c.in_ok-position.ensures,
    )
