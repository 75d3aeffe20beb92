use Rattle.hp_script_commands.proofs.Answering.{explores, explores_short}
use Rattle.hp_script_commands.proofs.exploring.explore_script.Goals as goal

pub returns-clause-ok : goal.returns-clause-ok
returns-clause-ok g c =
    explores c.args.exploration _ _ _ _ c.in_ok-script.script c.in_ok-script.ensures.ok c.write_explored.result c.write_explored.ensures.ok

pub returns-clause-err : goal.returns-clause-err
returns-clause-err g c =
    explores_short c.args.exploration _ _ _ _ c.in_ok-script.script c.in_ok-script.ensures.ok c.write_explored.result _ _
    c.write_explored.ensures.err c.write_explored.ensures.writes
