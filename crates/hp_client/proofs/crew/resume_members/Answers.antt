use Rattle.std.proofs.Common.{sym, ap, ◌∙◌, arith}
use Rattle.hp_client.specs.Crew.{resuming}
use Rattle.hp_shared.proofs.Mapped.{done_more, others_more}
use Rattle.hp_client.proofs.crew.resume_members.Goals as goal

pub loop-member-preserved : goal.loop-member-preserved
loop-member-preserved g c = record {
  done =
      done_more resuming c.loop-member.member-index c.loop-member.members c.args.members.now c.member-item.result _
      (omega (arith, c.loop-member-test.true, c.loop-member.auto.members)) c.member-item.is c.loop-member.invariant.done
      c.loop-member.invariant.others (ap resuming (c.member.view_is ∙ sym c.member-item.is));
  others = others_more c.loop-member.member-index c.loop-member.members c.args.members.now _ c.loop-member.invariant.others;
}
