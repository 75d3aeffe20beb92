use Rattle.hp_every.proofs.Endings.{ends_by_turns}
use Rattle.std.proofs.Common.{refl}
use Rattle.hp_search.specs.Searching.{question_of}
use Rattle.hp_search.proofs.Closed.{all_behind}
use Rattle.hp_search.proofs.exploring.EndQueryTurns.after.Goals as goal

pub returns : goal.returns
returns c =
    let a = question_of c.args.self.now.query in
    let from = c.args.from.now in
    all_behind a (λ v. v.items) from (ends_by_turns a from from c.requires.1 c.requires.1 refl) c.goes_on.result c.goes_on.ensures
