use Rattle.hp_search.specs.Searching.{question_of}
use Rattle.hp_search.proofs.Made.{has_at}
use Rattle.hp_search.proofs.finding.events_of.Goals as goal

pub returns : goal.returns
returns c =
    let a = question_of c.args.query in
    let at = c.in_ok-follow.ensures in
    record { has = has_at a c.args.turns.now c.follow.new.events.items c.in_ok-follow.field-0 at; told = at.told }
