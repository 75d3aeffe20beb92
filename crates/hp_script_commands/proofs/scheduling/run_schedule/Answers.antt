use Rattle.hp_text.specs.ScriptLines.{HasLinesFault}
use Rattle.hp_text.specs.Streams.{failures_of}
use Rattle.hp_text.specs.declared.fault.ReplayFault.TheVariants.{Write}
use Rattle.hp_program.specs.Answers.{OfScript}
use Rattle.hp_program.proofs.Answers.{answered_text, no_lines_fault}
use Rattle.hp_script_commands.specs.Runs.{Schedules, SchedulesPartly, IsScheduled}
use Rattle.hp_script_commands.proofs.Scheduled.{schedules_pass}
use Rattle.hp_script_commands.proofs.scheduling.run_schedule.Goals as goal

pub returns : goal.returns
returns g c =
    let s = c.args.scheduling in
    answered_text (Schedules s) (SchedulesPartly s) (OfScript (IsScheduled s)) HasLinesFault (schedules_pass s) _ _ _ _ _ _ _ _ _
    (failures_of c.schedule_script-written.new.writer) c.schedule_script-written.result c.flushed_answer.result
    c.flush_gathered-flushed.result.0 c.in-Ok.ensures.contents c.in-Ok.ensures.failures c.schedule_script-written.ensures.ok
    c.schedule_script-written.ensures.err c.schedule_script-written.ensures.bad (no_lines_fault _ Write tt)
    c.schedule_script-written.ensures.reads c.schedule_script-written.ensures.writes
    c.flush_gathered-flushed.ensures.bytes c.flushed_answer.ensures.ok c.flushed_answer.ensures.err
