use Rattle.std.proofs.lemmas.Result.{err_from_is_err_and}
use Rattle.hp_replay.proofs.Running.{line_unrun}
use Rattle.hp_replay.proofs.replaying.run_first.Goals as goal

pub returns-in_err-run_step-clause-err : goal.returns-in_err-run_step-clause-err
returns-in_err-run_step-clause-err c =
    let p = err_from_is_err_and c.from_residual.result c.from_residual.ensures.1 in
    rw (p.1, p.2)
    (line_unrun c.args.feed.now c.take_step.new.self c.args.core.now c.run_step.new.core c.args.lines.now c.run_step.new.lines
    c.args.piece.now c.requires.no_fault c.in_err-run_step.ensures.err)
