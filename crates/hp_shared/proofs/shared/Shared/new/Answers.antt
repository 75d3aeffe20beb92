use Rattle.std.proofs.Common.{◌∷◌, [], length, ap, ◌∙◌, arith, length-append}
use Rattle.hp_shared.specs.Seats.{new_seat}
use Rattle.hp_shared.proofs.Gains.{seats_on}
use Rattle.hp_shared.proofs.shared.Shared.new.Goals as goal

pub loop-number-preserved : goal.loop-number-preserved
loop-number-preserved g c =
    let seats = c.loop-number.seats.items in
    let seat = c.new-seat.result in
    let items = c.in_ok-push.ensures.items in record {
      parts = omega (arith, c.split_off.ensures.parts_left, c.loop-number.invariant.parts);
      amount = omega (arith, c.split_off.ensures.amount_left, c.loop-number.invariant.amount);
      count = omega (arith, ap length items, length-append seats (seat ∷ []), c.loop-number.invariant.count);
      each =
          seats_on seats c.push.new.self.items seat c.loop-number.number c.loop-number.invariant.count
          c.loop-number.invariant.each (c.new-seat.ensures ∙ ap new_seat c.new-task.ensures) items;
    }
