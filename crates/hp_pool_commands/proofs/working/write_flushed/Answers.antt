use Rattle.std.proofs.Common.{ap}
use Rattle.hp_text.specs.Streams.{stream_of}
use Rattle.hp_pool_commands.proofs.Reporting.{line_cut}
use Rattle.hp_pool_commands.proofs.working.write_flushed.Goals as goal

pub returns-clause-err : goal.returns-clause-err
returns-clause-err g c =
    line_cut _ _ (g.W.Write.contents (stream_of c.write_text-written.new.writer)) (g.W.Write.contents c.flush_plain-flushed.result.1)
    c.args.text.now c.write_text-written.result c.flushed_answer.result c.flush_plain-flushed.result.0
    (ap g.W.Write.contents c.new-sink.ensures.stream) c.flush_plain-flushed.ensures.bytes
    c.write_text-written.ensures.ok c.write_text-written.ensures.front
    c.flushed_answer.ensures.ok c.flushed_answer.ensures.err
