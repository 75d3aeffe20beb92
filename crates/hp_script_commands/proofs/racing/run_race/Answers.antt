use Rattle.std.proofs.Common.{ap}
use Rattle.hp_script_commands.proofs.Answering.{answered_race}
use Rattle.hp_script_commands.proofs.racing.run_race.Goals as goal

pub returns : goal.returns
returns g c =
    answered_race c.args.racing _ _ _ _ _ _ _ _ _ _ c.race_script-raced.result c.flushed_answer.result c.flush_plain-flushed.result.0
    (ap g.W.Write.contents c.new-sink.ensures.stream) c.race_script-raced.ensures.ok c.race_script-raced.ensures.err c.race_script-raced.ensures.bad c.race_script-raced.ensures.reads
    c.flush_plain-flushed.ensures.bytes c.flushed_answer.ensures.ok c.flushed_answer.ensures.err
