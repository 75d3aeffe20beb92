use Rattle.std.proofs.Common.{ℕ, sym, ap, ◌∙◌, arith}
use Rattle.hp_client.specs.declared.crew.Work.{Work}
use Rattle.hp_client.specs.Crew.{given, work_for}
use Rattle.hp_shared.proofs.Mapped.{done_more, others_more}
use Rattle.hp_client.proofs.crew.give_calls.Goals as goal

pub loop-member-preserved : goal.loop-member-preserved
loop-member-preserved g c = record {
  done =
      done_more (given c.args.calls.now) c.loop-member.member-index c.loop-member.members c.args.members.now c.member-item.result _
      (omega (arith, c.loop-member-test.true, c.loop-member.auto.members)) c.member-item.is c.loop-member.invariant.done
      c.loop-member.invariant.others (ap (λ (w : Work). record { seat = c.member.inside.seat; work = w })
      (c.work_for-member-inside.ensures ∙ ap (λ (t : ℕ). work_for t c.args.calls.now) c.task.ensures)
      ∙ ap (given c.args.calls.now) (c.member.view_is ∙ sym c.member-item.is));
  others = others_more c.loop-member.member-index c.loop-member.members c.args.members.now _ c.loop-member.invariant.others;
}
