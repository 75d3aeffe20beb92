use Rattle.std.proofs.Common.{ap}
use Rattle.hp_text.specs.Streams.{failures_of}
use Rattle.hp_picture_commands.proofs.Written.{answered_state}
use Rattle.hp_picture_commands.proofs.states.run_state.Goals as goal

pub returns : goal.returns
returns g c =
    answered_state _ _ _ _ _ _ _ _ (failures_of c.new-sink.result) (failures_of c.write_state_of-written.new.writer)
    c.write_state_of-written.result c.flushed_answer.result c.flush_plain-flushed.result.0
    (ap g.W.Write.contents c.new-sink.ensures.stream) c.new-sink.ensures.failures c.write_state_of-written.ensures.ok
    c.write_state_of-written.ensures.err c.write_state_of-written.ensures.bad c.write_state_of-written.ensures.reads
    c.write_state_of-written.ensures.writes c.flush_plain-flushed.ensures.bytes c.flushed_answer.ensures.ok c.flushed_answer.ensures.err
