use Rattle.std.proofs.Common.{◌+◌, ◌%◌, ◌^◌, ℕ, ap}
use Rattle.hp_script_commands.proofs.Scheduled.{numbered, schedules, schedules_short}
use Rattle.hp_script_commands.proofs.scheduling.schedule_script.Goals as goal

pub returns-clause-ok : goal.returns-clause-ok
returns-clause-ok g c =
    let s = c.args.scheduling in
    let one = numbered c.in_ok-script.script s.seed s.chances.deny s.chances.kill s.run _
    c.in_ok-trace.trace.events.items (ap (λ (n : ℕ). (s.seed + n) % 2 ^ 64) c.from.ensures)
    c.in_ok-trace.ensures.line in
    schedules s _ _ _ _ c.in_ok-script.script c.in_ok-trace.trace.events.items one.0 _
    c.in_ok-script.ensures.ok one.1 c.in_ok-trace.ensures.config c.write_trace.result c.write_trace.ensures.ok

pub returns-clause-err : goal.returns-clause-err
returns-clause-err g c =
    let s = c.args.scheduling in
    let one = numbered c.in_ok-script.script s.seed s.chances.deny s.chances.kill s.run _
    c.in_ok-trace.trace.events.items (ap (λ (n : ℕ). (s.seed + n) % 2 ^ 64) c.from.ensures)
    c.in_ok-trace.ensures.line in
    schedules_short s _ _ _ _ c.in_ok-script.script c.in_ok-trace.trace.events.items one.0 _
    c.in_ok-script.ensures.ok one.1 c.in_ok-trace.ensures.config c.write_trace.result _ _
    c.write_trace.ensures.err c.write_trace.ensures.writes
