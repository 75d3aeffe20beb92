use Rattle.std.proofs.Common.{◌∙◌}
use Rattle.hp_pool_commands.proofs.Reporting.{traces_work}
use Rattle.hp_pool_commands.proofs.working.traced.Goals as goal

pub returns-in-Ok-clause-ok : goal.returns-in-Ok-clause-ok
returns-in-Ok-clause-ok c =
    traces_work _ c.args.words c.in-Some.workload c.in-Ok.report c.in-Ok.trace c.lay_trace.result
    (c.in-Some.ensures.found ∙ c.as_str.ensures.value) c.in-Ok.ensures.traced c.lay_trace.ensures.report c.lay_trace.ensures.text
