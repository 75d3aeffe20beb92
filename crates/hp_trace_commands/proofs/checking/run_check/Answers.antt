use Rattle.std.proofs.Common.{ap}
use Rattle.hp_text.specs.Streams.{failures_of}
use Rattle.hp_trace_commands.proofs.Texts.{answered_check}
use Rattle.hp_trace_commands.proofs.checking.run_check.Goals as goal

pub returns : goal.returns
returns g c =
    answered_check _ _ _ _ _ _ _ _ (failures_of c.new-sink.result) (failures_of c.count_events-counted.new.writer)
    c.count_events-counted.result c.flushed_answer.result c.flush_plain-flushed.result.0
    (ap g.W.Write.contents c.new-sink.ensures.stream) c.new-sink.ensures.failures c.count_events-counted.ensures.ok
    c.count_events-counted.ensures.err c.count_events-counted.ensures.bad c.count_events-counted.ensures.reads
    c.count_events-counted.ensures.writes c.flush_plain-flushed.ensures.bytes c.flushed_answer.ensures.ok c.flushed_answer.ensures.err
