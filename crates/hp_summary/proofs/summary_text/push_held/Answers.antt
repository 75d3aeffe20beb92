use Rattle.std.proofs.Common.{length, arith}
use Rattle.std.specs.List.{range_with_len}
use Rattle.hp_summary.specs.SummaryText.{held_line}
use Rattle.hp_summary.proofs.Laid.{laid_all, laid_more, range_at, range_long}
use Rattle.hp_summary.proofs.summary_text.push_held.Goals as goal

pub loop-place-preserved : goal.loop-place-preserved
loop-place-preserved c =
    let held = c.args.held.now in
    let n = c.loop-place.place in
    laid_more (held_line held) (range_with_len 0 (length held)) n n 0 _ _ _
    (omega (arith, c.loop-place-test.true, range_long 0 (length held))) (omega (arith, range_at 0 (length held) n 0 c.loop-place-test.true))
    c.loop-place.invariant c.in_ok-push_held_line.ensures

pub returns : goal.returns
returns c =
    let held = c.args.held.now in
    laid_all (held_line held) (range_with_len 0 (length held)) c.loop-place.place _ _
    (omega (arith, c.loop-place-test.false, range_long 0 (length held))) c.loop-place.invariant
