use Rattle.std.proofs.Common.{ℕ, subst}
use Rattle.hp_text.specs.Streams.{TellsWrites, failures_of}
use Rattle.hp_trace_commands.proofs.Texts.{answered_explain}
use Rattle.hp_trace_commands.proofs.explaining.run_explain.Goals as goal

pub returns : goal.returns
returns g c =
    answered_explain c.args.view.now _ _ _ _ _ _ _ _ (failures_of c.explain-explained.new.writer) c.explain-explained.result
    c.flushed_answer.result
    c.flush_gathered-flushed.result.0 c.in-Ok.ensures.contents c.explain-explained.ensures.ok c.explain-explained.ensures.err
    c.explain-explained.ensures.bad c.explain-explained.ensures.reads
    (subst (λ (n : ℕ). TellsWrites c.explain-explained.result n (failures_of c.explain-explained.new.writer))
    c.in-Ok.ensures.failures c.explain-explained.ensures.writes)
    c.flush_gathered-flushed.ensures.bytes c.flushed_answer.ensures.ok c.flushed_answer.ensures.err
