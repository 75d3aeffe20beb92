use Rattle.std.proofs.lemmas.Result.{IfOk-weaker}
use Rattle.hp_race.specs.Calls.{is_mortal}
use Rattle.hp_race.proofs.Told.{told_refused, told_so}
use Rattle.hp_race.proofs.telling.tell.Goals as goal

pub returns-in-Ok : goal.returns-in-Ok
returns-in-Ok g c =
    told_so (is_mortal c.args.chances) c.args.script.now c.args.ran.found c.args.shared.config c.args.ran.seats.items c.in-Ok.closed.core
    c.in-Ok.closed.last.first c.in-Ok.closed.last.entries.items c.in-Ok.ensures.seated c.requires.config c.requires.count
    c.in-Ok.ensures.run c.requires.calls c.in-Ok.closed.entries c.in-Ok.ensures.entries c.told_of_closed.result
    c.told_of_closed.ensures.verdict c.told_of_closed.ensures.counts

pub returns : goal.returns
returns g c =
    IfOk-weaker c.told_of_refused.result _ _
    (λ race told.
    told_refused (is_mortal c.args.chances) c.args.script.now c.args.shared.config c.args.ran.seats.items c.tally-tally.ensures.0
    c.tally-tally.result race
    c.in-Err.refused.fault c.tally-tally.ensures.1 c.tally-tally.ensures.2 c.requires.config c.in-Err.ensures.refused told)
    c.told_of_refused.ensures
