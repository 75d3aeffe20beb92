use Rattle.std.proofs.Common.{ℕ, ap, sym, ◌∙◌, arith}
use Rattle.hp_shared.specs.Cutting.{emptied}
use Rattle.hp_shared.specs.States.{SeatState}
use Rattle.hp_shared.proofs.Mapped.{done_more, others_more}
use Rattle.hp_shared.proofs.cutting.empty_seats.Goals as goal

pub loop-seat-preserved : goal.loop-seat-preserved
loop-seat-preserved g c =
    let with_entries : ℕ → SeatState = λ n. record {
      task = c.seat.inside.task;
      earlier = c.seat.inside.earlier;
      list = c.seat.inside.list.items;
      entries = n;
    } in record {
      done =
          done_more emptied c.loop-seat.seat-index c.loop-seat.seats c.args.seats.now c.seat-item.result c.empty.new.self
          (omega (arith, c.loop-seat-test.true, c.loop-seat.auto.seats)) c.seat-item.is c.loop-seat.invariant.done
          c.loop-seat.invariant.others
          (c.empty.ensures ∙ ap emptied (ap with_entries c.audit.ensures.amount ∙ c.seat.view_is ∙ sym c.seat-item.is));
      others =
          others_more c.loop-seat.seat-index c.loop-seat.seats c.args.seats.now c.empty.new.self c.loop-seat.invariant.others;
      total = c.audit.ensures.total ∙ c.loop-seat.invariant.total;
    }
