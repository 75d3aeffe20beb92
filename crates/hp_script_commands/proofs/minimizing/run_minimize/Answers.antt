use Rattle.hp_text.specs.Streams.{failures_of}
use Rattle.hp_text.specs.Traces.{HasFault}
use Rattle.hp_text.specs.declared.fault.ReplayFault.TheVariants.{Write}
use Rattle.hp_program.specs.Answers.{OfTrace}
use Rattle.hp_program.proofs.Answers.{answered_hunt, no_trace_fault}
use Rattle.hp_script_commands.specs.Hunting.{Minimizes, MinimizesPartly, MinimizesNone, IsMinimized}
use Rattle.hp_script_commands.proofs.Hunted.{minimizes_pass}
use Rattle.hp_script_commands.proofs.minimizing.run_minimize.Goals as goal

pub returns : goal.returns
returns g c =
    let conditions = c.args.conditions.now in
    answered_hunt (Minimizes conditions) (MinimizesPartly conditions) (MinimizesNone conditions) (OfTrace (IsMinimized conditions)) HasFault
    (minimizes_pass conditions) _ _ _ _ _ _ _ _ _ (failures_of c.minimize_trace-met.new.writer) c.minimize_trace-met.result
    c.flushed_answer.result c.flush_gathered-flushed.result.0 c.in-Ok.ensures.contents c.in-Ok.ensures.failures
    c.minimize_trace-met.ensures.ok c.minimize_trace-met.ensures.err c.minimize_trace-met.ensures.bad (no_trace_fault _ Write tt)
    c.minimize_trace-met.ensures.reads c.minimize_trace-met.ensures.writes
    c.flush_gathered-flushed.ensures.bytes c.flushed_answer.ensures.ok c.flushed_answer.ensures.err
