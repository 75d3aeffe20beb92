use Rattle.std.proofs.Common.{arith}
use Rattle.hp_race.specs.Calls.{is_mortal}
use Rattle.hp_race.proofs.Making.{all_new, whole}
use Rattle.hp_race.proofs.racing.run_by.Goals as goal

pub make_range-requires-after_bounds : goal.make_range-requires-after_bounds
make_range-requires-after_bounds g c κs within = all_new _ _ c.in_ok-shared.ensures.count c.in_ok-shared.ensures.seats

pub returns-clause-calls : goal.returns-clause-calls
returns-clause-calls g c =
    let found = c.in_ok-ran.ran.found in
    whole (is_mortal c.args.chances) c.args.script.now c.len.result found.astray found.late found.refused.items
    c.in_ok-ran.ran.seats.items (omega (arith, c.len.ensures, c.args.script.now.calls.ok)) c.in_ok-ran.ensures.calls
