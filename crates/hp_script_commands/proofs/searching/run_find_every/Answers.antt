use Rattle.hp_command.specs.declared.request.EverySearch.{EverySearch}
use Rattle.hp_text.specs.ScriptLines.{HasLinesFault}
use Rattle.hp_text.specs.Streams.{failures_of}
use Rattle.hp_text.specs.declared.fault.ReplayFault.TheVariants.{Write}
use Rattle.hp_program.specs.Answers.{OfScript}
use Rattle.hp_program.proofs.Answers.{answered_hunt, no_lines_fault}
use Rattle.hp_script_commands.specs.Searching.{FindsEvery, FindsEveryPartly, IsShortestText, MissesEvery}
use Rattle.hp_script_commands.proofs.Searched.{finds_every_pass}
use Rattle.hp_script_commands.proofs.searching.run_find_every.Goals as goal

pub returns : goal.returns
returns g c =
    let s : EverySearch = c.args.search.now in
    answered_hunt (FindsEvery s) (FindsEveryPartly s) (MissesEvery s c.find_in_all-met.new.cut) (OfScript (IsShortestText s)) HasLinesFault
    (finds_every_pass s) _ _ _ _ _ _ _ _ _
    (failures_of c.find_in_all-met.new.writer) c.find_in_all-met.result c.flushed_answer.result c.flush_gathered-flushed.result.0
    c.in-Ok.ensures.contents c.in-Ok.ensures.failures c.find_in_all-met.ensures.ok c.find_in_all-met.ensures.err
    c.find_in_all-met.ensures.bad (no_lines_fault _ Write tt) c.find_in_all-met.ensures.reads c.find_in_all-met.ensures.writes
    c.flush_gathered-flushed.ensures.bytes c.flushed_answer.ensures.ok c.flushed_answer.ensures.err
