use Rattle.std.proofs.lemmas.Result.{IfOk-weaker}
use Rattle.hp_race.specs.Calls.{is_mortal}
use Rattle.hp_race.proofs.Making.{all_new}
use Rattle.hp_race.proofs.Parting.{refused_parts, told_parts}
use Rattle.hp_race.proofs.parts.parts_by.Goals as goal

pub make_parts-requires-clause-new : goal.make_parts-requires-clause-new
make_parts-requires-clause-new g c κs within = all_new _ _ c.in_ok-shared.ensures.count c.in_ok-shared.ensures.seats

pub returns-in-Ok : goal.returns-in-Ok
returns-in-Ok g c =
    told_parts (is_mortal c.args.chances) c.args.script.now c.args.most c.in_ok-made.made c.in_ok-again.again.core
    c.make_parts.new.again.core
    c.in-Ok.closed.core c.in_ok-again.again.entries c.make_parts.new.again.entries c.in-Ok.closed.last.first
    c.in-Ok.closed.entries c.in-Ok.closed.last.entries.items c.in_ok-made.seats.items c.told_of_parts.result
    c.in_ok-again.ensures.core c.in_ok-again.ensures.entries c.in_ok-made.ensures.parts c.in_ok-shared.shared.config
    c.in_ok-shared.ensures.config c.in-Ok.ensures.run
    c.in-Ok.ensures.entries c.told_of_parts.ensures.counts c.told_of_parts.ensures.verdict

pub returns : goal.returns
returns g c =
    IfOk-weaker c.told_of_refused.result _ _
    (λ race told.
    refused_parts (is_mortal c.args.chances) c.args.script.now c.args.most c.in_ok-shared.shared.config c.in_ok-made.seats.items
    c.tally-tally.ensures.0
    c.tally-tally.result race c.in-Err.refused.fault c.tally-tally.ensures.1 c.tally-tally.ensures.2 c.in_ok-shared.ensures.config
    c.in-Err.ensures.refused told)
    c.told_of_refused.ensures
