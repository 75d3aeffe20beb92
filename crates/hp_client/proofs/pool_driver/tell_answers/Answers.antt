use Rattle.std.proofs.Common.{ℕ, ◌∙◌, arith, ap, sym}
use Rattle.hp_base.specs.declared.event.Op.{Op}
use Rattle.hp_client.specs.Crew.{work_at}
use Rattle.hp_client.specs.PoolRounds.{answer_of}
use Rattle.hp_client.proofs.Crewing.{answered_more, unanswered_left}
use Rattle.hp_client.proofs.pool_driver.tell_answers.Goals as goal

pub push_reserved-requires : goal.push_reserved-requires
push_reserved-requires g c = omega (arith, c.loop-call.invariant.each, c.loop-call.invariant.room, c.loop-call-test.true)

pub loop-call-preserved : goal.loop-call-preserved
loop-call-preserved g c =
    let members = g.C.Team.members c.args.crew.now in
    let answered =
    ap (λ (call : ℕ × Op). answer_of (work_at call.0 members)) (sym c.call-item.is) ∙ sym c.answer_of.ensures
    ∙ c.in_ok-answer_of.was in record {
      answers =
          answered_more members c.args.calls.now c.loop-call.answers.items c.push_reserved.new.self.items
          c.loop-call.call-index c.call-item.result c.in_ok-answer_of.field-0 c.loop-call-test.true answered
          c.push_reserved.ensures.items c.loop-call.invariant.answers;
      first =
          λ why later. c.loop-call.invariant.first why
          (unanswered_left members c.args.calls.now c.loop-call.call-index c.call-item.result c.in_ok-answer_of.field-0 why
          c.loop-call-test.true answered later);
      each = omega (arith, c.loop-call.invariant.each, c.push_reserved.ensures.len);
      room = omega (arith, c.push_reserved.ensures.capacity, c.loop-call.invariant.room);
    }
