use Rattle.std.proofs.Common.{ℕ, subst}
use Rattle.hp_text.specs.Streams.{TellsWrites, failures_of}
use Rattle.hp_trace_commands.proofs.Texts.{answered_page}
use Rattle.hp_trace_commands.proofs.paging.run_page.Goals as goal

pub returns : goal.returns
returns g c =
    answered_page _ _ _ _ _ _ _ _ (failures_of c.html_page-written.new.writer) c.html_page-written.result c.flushed_answer.result
    c.flush_gathered-flushed.result.0 c.in-Ok.ensures.contents c.html_page-written.ensures.ok c.html_page-written.ensures.err
    c.html_page-written.ensures.bad c.html_page-written.ensures.reads
    (subst (λ (n : ℕ). TellsWrites c.html_page-written.result n (failures_of c.html_page-written.new.writer)) c.in-Ok.ensures.failures
    c.html_page-written.ensures.writes)
    c.flush_gathered-flushed.ensures.bytes c.flushed_answer.ensures.ok c.flushed_answer.ensures.err
