use Rattle.std.proofs.Common.{ap}
use Rattle.hp_script_commands.proofs.Answering.{answered_summary}
use Rattle.hp_script_commands.proofs.summarizing.run_summarize.Goals as goal

pub returns : goal.returns
returns g c =
    answered_summary c.args.survey _ _ _ _ _ _ _ _ _ _ c.summarize_script-summed.result c.flushed_answer.result c.flush_plain-flushed.result.0
    (ap g.W.Write.contents c.new-sink.ensures.stream) c.summarize_script-summed.ensures.ok c.summarize_script-summed.ensures.err c.summarize_script-summed.ensures.bad c.summarize_script-summed.ensures.reads
    c.flush_plain-flushed.ensures.bytes c.flushed_answer.ensures.ok c.flushed_answer.ensures.err
