-- Each round is one more event of the run, and its outcome is put at its place.
use Rattle.std.proofs.Common.{◌<◌, arith, length, refl}
use Rattle.std.proofs.lemmas.Grind.{common_steps}
use Rattle.hp_c.proofs.Running.{at, at_is, ran_none, ran_next, rest_next, stopped_by}
use Rattle.hp_c.proofs.events.happen_all.Goals as goal

pub loop-event-init : goal.loop-event-init
loop-event-init c = record { ran = ran_none c.args.core.now; rest = refl; room = refl; below = omega arith; count = refl }

pub bounds-outcomes-done : goal.bounds-outcomes-done
bounds-outcomes-done c = omega (arith, c.loop-event.invariant.below, c.if-done-outcomes.false)

pub returns-in-Err-clause-code : goal.returns-in-Err-clause-code
returns-in-Err-clause-code c =
    let within = c.loop-event-test.true in
    let n = at c.args.events.now c.loop-event.event-index in
    stopped_by _ _ _ _ _ _ n _ _ c.loop-event.invariant.count within (at_is _ _ within) c.in-Err.ensures.err c.in-Err.ensures.code

pub loop-event-preserved : goal.loop-event-preserved
loop-event-preserved c =
    let inv = c.loop-event.invariant in
    let within = c.loop-event-test.true in
    let n = at c.args.events.now c.loop-event.event-index in
    let room : c.loop-event.done < length c.loop-event.outcomes = omega (arith, inv.below, c.if-done-outcomes.false) in
    record {
      ran = ran_next _ _ _ _ _ _ _ n _ inv.count within room (at_is _ _ within) inv.ran c.in-Ok.ensures.ok;
      rest = rest_next _ _ _ _ _ inv.count inv.rest;
      room = grind (arith, common_steps);
      below = grind (arith, common_steps);
      count = omega (arith, inv.count);
    }
