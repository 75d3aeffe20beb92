use Rattle.hp_script_commands.proofs.Answering.{races, races_short}
use Rattle.hp_script_commands.proofs.racing.race_script.Goals as goal

pub returns-clause-ok : goal.returns-clause-ok
returns-clause-ok g c =
    races c.args.racing _ _ _ _ c.in_ok-script.script c.in_ok-script.ensures.ok c.write_racing.result c.write_racing.ensures.ok

pub returns-clause-err : goal.returns-clause-err
returns-clause-err g c =
    races_short c.args.racing _ _ _ _ c.in_ok-script.script c.in_ok-script.ensures.ok c.write_racing.result _ _
    c.write_racing.ensures.err c.write_racing.ensures.writes
