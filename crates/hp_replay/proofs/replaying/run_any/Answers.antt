use Rattle.std.proofs.Common.{length, drop, refl}
use Rattle.std.specs.Prelude.{Some}
use Rattle.std.specs.Option.{option_map}
use Rattle.std.specs.Io.BufRead.{take_through}
use Rattle.std.proofs.lemmas.Result.{err_from_is_err_and}
use Rattle.hp_text.specs.Lines.{line_of}
use Rattle.hp_text.proofs.FirstLines.{TookLine}
use Rattle.hp_replay.proofs.Running.{line_can_run, line_opened, line_unrun, fails}
use Rattle.hp_replay.proofs.replaying.run_any.Goals as goal

pub returns-in_err-used-clause-err : goal.returns-in_err-used-clause-err
returns-in_err-used-clause-err c =
    let p = err_from_is_err_and c.from_residual.result c.from_residual.ensures.1 in
    let stopped = fails c.args.feed.now c.take.new.self c.args.core.now (Some c.args.lines.now)
    c.args.piece.now c.in_err-used.field-0.0 c.take.ensures.held c.in_err-used.ensures.none c.in_err-used.ensures.err
    c.in_err-used.ensures.kind in
    rw (p.1, p.2) stopped

pub run_taken-requires : goal.run_taken-requires
run_taken-requires c =
    line_can_run c.args.feed.now c.take.new.self (option_map line_of c.in_ok-used.line) c.args.piece.now
    c.args.core.now c.take.ensures.held c.in_ok-used.ensures.line c.in_ok-used.ensures.ok c.requires.opened

pub returns-in_err-run_taken-clause-err : goal.returns-in_err-run_taken-clause-err
returns-in_err-run_taken-clause-err c =
    let p = err_from_is_err_and c.from_residual-in_err-run_taken.result c.from_residual-in_err-run_taken.ensures.1 in
    rw (p.1, p.2)
    (line_unrun c.args.feed.now c.take.new.self c.args.core.now c.run_taken.new.core c.args.lines.now c.run_taken.new.lines
    c.args.piece.now c.requires.no_fault c.in_err-run_taken.ensures.err)

pub returns-clause-opened : goal.returns-clause-opened
returns-clause-opened c =
    let left = drop (length (take_through 10 c.args.piece.now)) c.args.piece.now in
    let took : TookLine c.args.feed.now c.take.new.self (option_map line_of c.in_ok-used.line) c.args.piece.now left =
    record { held = c.take.ensures.held; lines = c.in_ok-used.ensures.line; left_is = refl; ok = c.in_ok-used.ensures.ok } in
    line_opened c.args.feed.now c.take.new.self c.args.core.now c.run_taken.new.core (Some c.args.lines.now)
    (Some c.run_taken.new.lines) c.args.piece.now left (option_map line_of c.in_ok-used.line) took
    c.in_ok-run_taken.ensures.ok c.requires.opened
