use Rattle.std.proofs.Common.{arith, rules, length, ◌≡◌, drop, ◌∙◌, ap}
use Rattle.std.specs.Prelude.{Some}
use Rattle.std.specs.Io.BufRead.{take_through}
use Rattle.std.proofs.lemmas.Result.{err_from_is_err_and}
use Rattle.hp_text.proofs.FirstLines.{through_left, through_within}
use Rattle.hp_replay.proofs.Running.{starts, piece_moves, piece_stops}
use Rattle.hp_replay.proofs.replaying.run_piece.Goals as goal

pub loop-rest-init : goal.loop-rest-init
loop-rest-init c =
    starts c.args.feed.now c.args.core.now (Some c.args.lines.now) c.args.piece.now c.requires.no_fault c.requires.opened

pub returns-in_err-used-clause-err : goal.returns-in_err-used-clause-err
returns-in_err-used-clause-err c =
    let p = err_from_is_err_and c.from_residual.result c.from_residual.ensures.1 in
    let stopped = piece_stops c.args.feed.now c.loop-rest.feed c.run_first.new.feed c.args.core.now c.loop-rest.core
    c.run_first.new.core (Some c.args.lines.now) (Some c.loop-rest.lines) (Some c.run_first.new.lines)
    c.args.piece.now c.loop-rest.rest.now c.in_err-used.field-0.0 c.loop-rest.invariant c.in_err-used.ensures.err in
    rw (p.1, p.2) stopped

pub split_at-requires : goal.split_at-requires
split_at-requires c = omega (arith, c.in_ok-used.ensures.used, through_within c.loop-rest.rest.now)

pub loop-rest-preserved : goal.loop-rest-preserved
loop-rest-preserved c =
    let left : c.split_at.result.1.now ≡ drop (length (take_through 10 c.loop-rest.rest.now)) c.loop-rest.rest.now =
    c.split_at.ensures.back ∙ ap (λ n. drop n c.loop-rest.rest.now) c.in_ok-used.ensures.used in
    piece_moves c.args.feed.now c.loop-rest.feed c.run_first.new.feed c.args.core.now c.loop-rest.core
    c.run_first.new.core (Some c.args.lines.now) (Some c.loop-rest.lines) (Some c.run_first.new.lines) c.args.piece.now
    c.loop-rest.rest.now c.split_at.result.1.now c.loop-rest.invariant c.in_ok-used.ensures.ok c.in_ok-used.ensures.no_fault
    c.in_ok-used.ensures.opened left

pub loop-rest-smaller : goal.loop-rest-smaller
loop-rest-smaller c =
    through_left c.loop-rest.rest.now _ _ (first_of (omega arith, search rules)) c.in_ok-used.ensures.used c.split_at.ensures.back_len
