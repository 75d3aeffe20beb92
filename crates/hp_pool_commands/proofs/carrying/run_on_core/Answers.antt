use Rattle.hp_client.proofs.Carrying.{over_core, stopped_over_core}
use Rattle.hp_pool_commands.proofs.carrying.run_on_core.Goals as goal

pub returns-clause-ok : goal.returns-clause-ok
returns-clause-ok c = over_core c.args.workload c.config_of.result c.in_ok-driver.driver c.run_workload.new.driver
    c.config_of.ensures c.in_ok-driver.ensures.core c.in_ok-driver.ensures.heard c.run_workload.result
    c.run_workload.ensures.report
    c.run_workload.ensures.tally

pub returns-clause-err : goal.returns-clause-err
returns-clause-err c = stopped_over_core c.args.workload c.config_of.result c.in_ok-driver.driver c.run_workload.new.driver
    c.config_of.ensures c.in_ok-driver.ensures.core c.in_ok-driver.ensures.heard c.run_workload.result
    c.run_workload.ensures.stopped
