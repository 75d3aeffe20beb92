-- What is told of the next run: it is the first that meets all conditions, or one more misses.
use Rattle.std.proofs.Common.{◌<◌, ◌∙◌, length, refl, arith}
use Rattle.std.proofs.lemmas.List.{length-set}
use Rattle.hp_watch.proofs.Moments.{none_told}
use Rattle.hp_workers.proofs.Slots.{slot_left, slot_taken}
use Rattle.hp_hunt.specs.Claims.{TellsOf}
use Rattle.hp_hunt.proofs.Claimed.{one_more_misses, tells_met, tells_missed}
use Rattle.hp_hunt.proofs.claims.search_batch.Goals as goal

pub found_or_made-requires-clause-own : goal.found_or_made-requires-clause-own
found_or_made-requires-clause-own g c κs =
    let slots = c.loop-place.slots.items in
    let there : c.loop-place.place < length slots = omega (arith, c.loop-place.invariant.long, c.loop-place-test.true) in
    slot_taken (TellsOf c.args.batch) slots c.loop-place.place c.index_mut.result.now c.take-slot.result c.loop-place.invariant.own there
    c.index_mut.ensures.value c.take-slot.ensures.value

pub returns-in-Some-clause-found : goal.returns-in-Some-clause-found
returns-in-Some-clause-found g c =
    let place = c.loop-place.place in
    let tells = tells_met c.args.batch place c.in_ok-events.field-0 c.in-Some.events c.in_ok-events.ensures.right c.in-Some.is in
    record {
      place = place;
      there = c.loop-place-test.true;
      number = refl;
      meets = tells.0;
      before = c.loop-place.invariant.misses;
      config = refl;
      few = tells.1;
    }

pub loop-place-preserved : goal.loop-place-preserved
loop-place-preserved g c =
    let batch = c.args.batch in
    let slots = c.loop-place.slots.items in
    let place = c.loop-place.place in
    let there : place < length slots = omega (arith, c.loop-place.invariant.long, c.loop-place-test.true) in
    let none = none_told c.in_ok-events.field-0 c.in_default.not-Some in
    record {
      long = length-set slots place c.take-slot.new.self ∙ c.loop-place.invariant.long;
      own = slot_left (TellsOf batch) slots place c.take-slot.new.self c.loop-place.invariant.own there c.take-slot.ensures.after;
      misses = one_more_misses batch place c.loop-place.invariant.misses
          (tells_missed batch place c.in_ok-events.field-0 c.in_ok-events.ensures.right none);
    }
