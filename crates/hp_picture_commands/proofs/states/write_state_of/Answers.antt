use Rattle.std.proofs.lemmas.Result.{IfErr-weaker}
use Rattle.hp_program.proofs.Answers.{no_trace_fault}
use Rattle.hp_picture_commands.proofs.Written.{wrote_reads}
use Rattle.hp_picture_commands.proofs.states.write_state_of.Goals as goal

pub returns-clause-bad : goal.returns-clause-bad
returns-clause-bad g c =
    IfErr-weaker c.write_end.result _ _ (λ fault is. no_trace_fault (g.R.Source.remaining c.args.reader.now) fault is)
    c.write_end.ensures.fault

pub returns-clause-reads : goal.returns-clause-reads
returns-clause-reads g c = wrote_reads c.write_end.result _ _ c.in_ok-trace.ensures.reads c.write_end.ensures.fault
