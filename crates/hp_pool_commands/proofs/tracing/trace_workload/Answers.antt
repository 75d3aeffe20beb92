use Rattle.hp_pool_commands.proofs.Drafted.{traced_by}
use Rattle.hp_pool_commands.proofs.tracing.trace_workload.Goals as goal

pub returns-clause-traced : goal.returns-clause-traced
returns-clause-traced c =
    traced_by (λ driver. driver.draft) (λ driver. driver.heard.items) c.args.workload c.config_of.result _
    c.run_workload.new.driver
    c.in_ok-report.report c.into_trace.result c.config_of.ensures c.in_ok-new.ensures.sizes c.in_ok-new.ensures.opening
    c.new-2.ensures.items
    c.in_ok-report.ensures.report c.in_ok-report.ensures.tally c.is_led.ensures c.into_trace.ensures.sizes c.into_trace.ensures.events
