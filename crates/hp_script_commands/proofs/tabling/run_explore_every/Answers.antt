use Rattle.hp_command.specs.declared.request.EveryBounds.{EveryBounds}
use Rattle.hp_text.specs.ScriptLines.{HasLinesFault}
use Rattle.hp_text.specs.Streams.{failures_of}
use Rattle.hp_text.specs.declared.fault.ReplayFault.TheVariants.{Write}
use Rattle.hp_program.specs.Answers.{OfScript}
use Rattle.hp_program.proofs.Answers.{answered_hunt, no_lines_fault}
use Rattle.hp_script_commands.specs.Tabling.{IsCutShort, IsTableText, Tabulates, TabulatesPartly}
use Rattle.hp_script_commands.proofs.Tabled.{table_passes}
use Rattle.hp_script_commands.proofs.tabling.run_explore_every.Goals as goal

pub returns : goal.returns
returns g c =
    let b : EveryBounds = c.args.bounds in
    answered_hunt (Tabulates b) (TabulatesPartly b) (IsCutShort b c.tabulate_script-done.new.cut) (OfScript (IsTableText b)) HasLinesFault
    (table_passes b) _ _ _ _ _ _ _ _ _
    (failures_of c.tabulate_script-done.new.writer) c.tabulate_script-done.result c.flushed_answer.result c.flush_gathered-flushed.result.0
    c.in-Ok.ensures.contents c.in-Ok.ensures.failures c.tabulate_script-done.ensures.ok c.tabulate_script-done.ensures.err
    c.tabulate_script-done.ensures.bad (no_lines_fault _ Write tt) c.tabulate_script-done.ensures.reads c.tabulate_script-done.ensures.writes
    c.flush_gathered-flushed.ensures.bytes c.flushed_answer.ensures.ok c.flushed_answer.ensures.err
