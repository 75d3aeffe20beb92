use Rattle.std.proofs.lemmas.Result.{err_from_is_err_and}
use Rattle.hp_script_commands.proofs.Answering.{sums_short, sums_up}
use Rattle.hp_script_commands.proofs.summarizing.summarize_script.Goals as goal

pub returns-clause-ok : goal.returns-clause-ok
returns-clause-ok g c =
    sums_up c.args.survey _ _ _ _ c.in_ok-script.script c.in_ok-script.ensures.ok c.in_ok-summary.summary
    c.in_ok-summary.ensures.summary c.in_ok-write_summary.ensures.ok

pub returns-in_err-write_summary-clause-err : goal.returns-in_err-write_summary-clause-err
returns-in_err-write_summary-clause-err g c =
    let p = err_from_is_err_and c.from_residual-in_err-write_summary.result c.from_residual-in_err-write_summary.ensures.1 in
    rw (p.1, p.2)
    (sums_short c.args.survey _ _ _ _ c.in_ok-script.script c.in_ok-script.ensures.ok c.in_ok-summary.summary
    c.in_ok-summary.ensures.summary _ _ _ c.in_err-write_summary.ensures.err.0 c.in_err-write_summary.ensures.err.1
    c.in_err-write_summary.ensures.writes)
