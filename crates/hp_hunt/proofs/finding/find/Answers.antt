-- The first of a batch is the first of all, where those before it miss.
use Rattle.std.proofs.Common.{◌≤◌, ◌+◌, refl, arith}
use Rattle.hp_hunt.proofs.Claimed.{all_missed, found_first}
use Rattle.hp_watch.proofs.Moments.{none_told}
use Rattle.hp_hunt.proofs.finding.find.Goals as goal

pub returns-in-Some-clause-found : goal.returns-in-Some-clause-found
returns-in-Some-clause-found g c =
    let within : c.loop-first.first + c.min-count.result ≤ c.args.hunt.limit = omega (arith, c.min-count.ensures, c.loop-first-test.true) in
    let is = rw c.in-Some.is at c.in_ok-found.ensures.found in
    found_first _ c.in-Some.found is c.args.script.now c.args.hunt c.args.conditions.now c.in_ok-plan.ensures refl refl refl
    c.loop-first.invariant.none within

pub loop-first-preserved : goal.loop-first-preserved
loop-first-preserved g c =
    let none = none_told c.in_ok-found.field-0 c.in_default.not-Some in
    let missed = c.in_ok-found.ensures.none none in
    record {
      some = c.next_part-size.ensures.some;
      within = omega (arith, c.min-count.ensures, c.loop-first-test.true);
      none = all_missed _ missed c.args.script.now c.args.hunt c.args.conditions.now c.in_ok-plan.ensures refl refl refl
          c.loop-first.invariant.none;
    }
