use Rattle.std.proofs.Common.{ap}
use Rattle.hp_script_commands.proofs.Answering.{answered_explore}
use Rattle.hp_script_commands.proofs.exploring.run_explore.Goals as goal

pub returns : goal.returns
returns g c =
    answered_explore c.args.exploration _ _ _ _ _ _ _ _ _ _ c.explore_script-explored.result c.flushed_answer.result c.flush_plain-flushed.result.0
    (ap g.W.Write.contents c.new-sink.ensures.stream) c.explore_script-explored.ensures.ok c.explore_script-explored.ensures.err c.explore_script-explored.ensures.bad c.explore_script-explored.ensures.reads
    c.flush_plain-flushed.ensures.bytes c.flushed_answer.ensures.ok c.flushed_answer.ensures.err
