use Rattle.std.proofs.lemmas.Result.{err_from_is_err_and}
use Rattle.hp_text.proofs.StreamFaults.{line_no_write}
use Rattle.hp_replay.proofs.replaying.finish.Goals as goal

pub returns-in_err-end-clause-writes : goal.returns-in_err-end-clause-writes
returns-in_err-end-clause-writes g c =
    let p = err_from_is_err_and c.from_residual.result c.from_residual.ensures.1 in
    rw (p.1, p.2) (line_no_write c.in_err-end.field-0.0 _ c.in_err-end.ensures.kind)
