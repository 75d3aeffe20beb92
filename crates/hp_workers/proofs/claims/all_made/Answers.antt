-- What stood in the slot, or else is made, is one more.
use Rattle.std.proofs.Common.{◌+◌, ◌<◌, ◌∙◌, [], ◌∷◌, length, arith}
use Rattle.std.proofs.lemmas.List.{length-set}
use Rattle.hp_workers.proofs.Pieces.{pieces_joined}
use Rattle.hp_workers.proofs.Slots.{slot_left, slot_taken}
use Rattle.hp_workers.proofs.claims.all_made.Goals as goal

pub found_or_made-requires-clause-own : goal.found_or_made-requires-clause-own
found_or_made-requires-clause-own g c κs live =
    let slots = c.loop-place.slots.items in
    let there : c.loop-place.place < length slots = omega (arith, c.loop-place.invariant.long, c.loop-place-test.true) in
    slot_taken (g.W.Work.is_right c.args.work.now) slots c.loop-place.place c.index_mut.result.now c.take-slot.result
    c.loop-place.invariant.own there c.index_mut.ensures.value c.take-slot.ensures.value

pub loop-place-preserved : goal.loop-place-preserved
loop-place-preserved g c =
    let right = g.W.Work.is_right c.args.work.now in
    let slots = c.loop-place.slots.items in
    let place = c.loop-place.place in
    let there : place < length slots = omega (arith, c.loop-place.invariant.long, c.loop-place-test.true) in
    record {
      long = length-set slots place c.take-slot.new.self ∙ c.loop-place.invariant.long;
      own = slot_left right slots place c.take-slot.new.self c.loop-place.invariant.own there c.take-slot.ensures.after;
      all = pieces_joined right 0 place place 1 (place + 1) c.loop-place.all.items (c.in_ok-found_or_made.field-0 ∷ [])
          c.push.new.self.items (omega arith) (omega arith) c.in_ok-push.ensures.items c.loop-place.invariant.all
          (c.in_ok-found_or_made.ensures.right, tt);
    }
