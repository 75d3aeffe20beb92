use Rattle.std.proofs.Common.{ap}
use Rattle.hp_picture_commands.proofs.Audited.{answered_audit}
use Rattle.hp_picture_commands.proofs.auditing.run_audit.Goals as goal

pub returns : goal.returns
returns g c =
    answered_audit _ _ _ _ _ _ _ _ c.audit_text-audited.result c.audited_answer.result c.flush_plain-flushed.result.0
    (ap g.W.Write.contents c.new-sink.ensures.stream) c.audit_text-audited.ensures.ok c.audit_text-audited.ensures.err
    c.audit_text-audited.ensures.reads c.flush_plain-flushed.ensures.bytes c.audited_answer.ensures.ok c.audited_answer.ensures.err
