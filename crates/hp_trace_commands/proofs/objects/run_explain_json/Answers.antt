use Rattle.std.proofs.Common.{ℕ, subst}
use Rattle.hp_text.specs.Streams.{TellsWrites, failures_of}
use Rattle.hp_trace_commands.proofs.Texts.{answered_json}
use Rattle.hp_trace_commands.proofs.objects.run_explain_json.Goals as goal

pub returns : goal.returns
returns g c =
    answered_json c.args.view.now _ _ _ _ _ _ _ _ (failures_of c.explain_json-explained.new.writer)
    c.explain_json-explained.result c.flushed_answer.result
    c.flush_gathered-flushed.result.0 c.in-Ok.ensures.contents c.explain_json-explained.ensures.ok
    c.explain_json-explained.ensures.err c.explain_json-explained.ensures.bad c.explain_json-explained.ensures.reads
    (subst (λ (n : ℕ). TellsWrites c.explain_json-explained.result n (failures_of c.explain_json-explained.new.writer))
    c.in-Ok.ensures.failures c.explain_json-explained.ensures.writes)
    c.flush_gathered-flushed.ensures.bytes c.flushed_answer.ensures.ok c.flushed_answer.ensures.err
