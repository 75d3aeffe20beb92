use Rattle.hp_command.specs.declared.request.Search.{Search}
use Rattle.hp_text.specs.ScriptLines.{HasLinesFault}
use Rattle.hp_text.specs.Streams.{failures_of}
use Rattle.hp_text.specs.declared.fault.ReplayFault.TheVariants.{Write}
use Rattle.hp_program.specs.Answers.{OfScript}
use Rattle.hp_program.proofs.Answers.{answered_hunt, no_lines_fault}
use Rattle.hp_script_commands.specs.Hunting.{Finds, FindsPartly, FindsNone, IsFinding}
use Rattle.hp_script_commands.proofs.Hunted.{finds_pass}
use Rattle.hp_script_commands.proofs.finding.run_find.Goals as goal

pub returns : goal.returns
returns g c =
    let s : Search = c.args.search.now in
    answered_hunt (Finds s) (FindsPartly s) (FindsNone s) (OfScript (IsFinding s)) HasLinesFault (finds_pass s) _ _ _ _ _ _ _ _ _
    (failures_of c.find_script-met.new.writer) c.find_script-met.result c.flushed_answer.result c.flush_gathered-flushed.result.0
    c.in-Ok.ensures.contents c.in-Ok.ensures.failures c.find_script-met.ensures.ok c.find_script-met.ensures.err
    c.find_script-met.ensures.bad (no_lines_fault _ Write tt) c.find_script-met.ensures.reads c.find_script-met.ensures.writes
    c.flush_gathered-flushed.ensures.bytes c.flushed_answer.ensures.ok c.flushed_answer.ensures.err
