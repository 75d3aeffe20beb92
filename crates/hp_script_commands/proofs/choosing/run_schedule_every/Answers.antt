use Rattle.hp_command.specs.declared.request.EndingChoice.{EndingChoice}
use Rattle.hp_text.specs.ScriptLines.{HasLinesFault}
use Rattle.hp_text.specs.Streams.{failures_of}
use Rattle.hp_text.specs.declared.fault.ReplayFault.TheVariants.{Write}
use Rattle.hp_program.specs.Answers.{OfScript}
use Rattle.hp_program.proofs.Answers.{answered_hunt, no_lines_fault}
use Rattle.hp_script_commands.specs.Choosing.{Chooses, ChoosesPartly, IsRowText, MissesEnding}
use Rattle.hp_script_commands.proofs.Chosen.{choice_passes}
use Rattle.hp_script_commands.proofs.choosing.run_schedule_every.Goals as goal

pub returns : goal.returns
returns g c =
    let e : EndingChoice = c.args.choice in
    answered_hunt (Chooses e) (ChoosesPartly e) (MissesEnding e c.choose_ending-done.new.cut) (OfScript (IsRowText e)) HasLinesFault
    (choice_passes e) _ _ _ _ _ _ _ _ _
    (failures_of c.choose_ending-done.new.writer) c.choose_ending-done.result c.flushed_answer.result c.flush_gathered-flushed.result.0
    c.in-Ok.ensures.contents c.in-Ok.ensures.failures c.choose_ending-done.ensures.ok c.choose_ending-done.ensures.err
    c.choose_ending-done.ensures.bad (no_lines_fault _ Write tt) c.choose_ending-done.ensures.reads c.choose_ending-done.ensures.writes
    c.flush_gathered-flushed.ensures.bytes c.flushed_answer.ensures.ok c.flushed_answer.ensures.err
