use Rattle.std.proofs.Common.{◌∙◌, [], List, subst, sym}
use Rattle.hp_every.specs.declared.turn.Turn.{Turn}
use Rattle.hp_search.specs.Searching.{IsAt, question_of}
use Rattle.hp_search.proofs.Made.{at_first}
use Rattle.hp_search.proofs.finding.first_path.Goals as goal

pub path_at-requires-clause-at : goal.path_at-requires-clause-at
path_at-requires-clause-at c =
    let a = question_of c.args.query in (
      [],
      subst (λ (turns : List Turn). IsAt a turns [] c.in_ok-position.position) (sym c.new.ensures.items)
          (at_first a c.in_ok-position.position c.in_ok-position.ensures.opening c.in_ok-position.ensures.place c.in_ok-position.ensures.know
          c.in_ok-position.ensures.answers),
    )

pub returns-clause-turns : goal.returns-clause-turns
returns-clause-turns c = c.in_ok-path.ensures.turns ∙ c.new.ensures.items
