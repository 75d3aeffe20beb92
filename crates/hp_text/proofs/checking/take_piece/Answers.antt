use Rattle.std.proofs.Common.{arith, rules, length, drop, ◌∙◌, ap}
use Rattle.std.proofs.lemmas.Result.{err_from_is_err_and}
use Rattle.hp_text.proofs.FirstLines.{through_left, through_within}
use Rattle.hp_text.proofs.Calls.{takes_none, takes_more, takes_fault}
use Rattle.hp_text.proofs.checking.take_piece.Goals as goal

pub loop-rest-init : goal.loop-rest-init
loop-rest-init c = takes_none c.args.feed.now c.args.piece.now c.requires

pub returns-in_err-used-clause-err : goal.returns-in_err-used-clause-err
returns-in_err-used-clause-err c =
    let p = err_from_is_err_and c.from_residual.result c.from_residual.ensures.1 in
    rw (p.1, p.2) (takes_fault c.args.feed.now c.loop-rest.feed c.take.new.self c.args.piece.now c.loop-rest.rest.now
    c.in_err-used.field-0.0 c.loop-rest.invariant c.take.ensures.held c.in_err-used.ensures.err)

pub split_at-requires : goal.split_at-requires
split_at-requires c = omega (arith, c.in_ok-used.ensures.used, through_within c.loop-rest.rest.now)

pub loop-rest-smaller : goal.loop-rest-smaller
loop-rest-smaller c =
    through_left c.loop-rest.rest.now _ _ (first_of (omega arith, search rules)) c.in_ok-used.ensures.used c.split_at.ensures.back_len

pub loop-rest-preserved : goal.loop-rest-preserved
loop-rest-preserved c =
    takes_more c.args.feed.now c.loop-rest.feed c.take.new.self c.args.piece.now c.loop-rest.rest.now c.split_at.result.1.now
    c.loop-rest.invariant c.take.ensures.held
    (c.split_at.ensures.back ∙ ap (λ n. drop n c.loop-rest.rest.now) c.in_ok-used.ensures.used) c.in_ok-used.ensures.ok
