use Rattle.std.proofs.Common.{ℕ, subst}
use Rattle.hp_text.specs.Streams.{TellsWrites, failures_of}
use Rattle.hp_trace_commands.proofs.Texts.{answered_draw}
use Rattle.hp_trace_commands.proofs.drawing.run_draw.Goals as goal

pub returns : goal.returns
returns g c =
    answered_draw _ _ _ _ _ _ _ _ (failures_of c.draw-drawn.new.writer) c.draw-drawn.result c.flushed_answer.result
    c.flush_gathered-flushed.result.0 c.in-Ok.ensures.contents c.draw-drawn.ensures.ok c.draw-drawn.ensures.err
    c.draw-drawn.ensures.bad c.draw-drawn.ensures.reads
    (subst (λ (n : ℕ). TellsWrites c.draw-drawn.result n (failures_of c.draw-drawn.new.writer)) c.in-Ok.ensures.failures
    c.draw-drawn.ensures.writes)
    c.flush_gathered-flushed.ensures.bytes c.flushed_answer.ensures.ok c.flushed_answer.ensures.err
