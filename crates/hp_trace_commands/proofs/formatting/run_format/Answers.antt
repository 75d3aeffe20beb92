use Rattle.std.proofs.Common.{ap}
use Rattle.hp_trace_commands.proofs.Formatted.{answered_format}
use Rattle.hp_trace_commands.proofs.formatting.run_format.Goals as goal

pub returns : goal.returns
returns g c =
    answered_format _ _ _ _ _ _ _ _ c.format_text-formatted.result c.formatted_answer.result c.flush_plain-flushed.result.0
    (ap g.W.Write.contents c.new-sink.ensures.stream) c.format_text-formatted.ensures.ok c.format_text-formatted.ensures.err
    c.format_text-formatted.ensures.reads c.flush_plain-flushed.ensures.bytes c.formatted_answer.ensures.ok c.formatted_answer.ensures.err
