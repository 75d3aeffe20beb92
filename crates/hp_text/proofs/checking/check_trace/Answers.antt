use Rattle.std.proofs.Common.{arith, rules, ◌-◌, ◌<◌, length, take, refl, sym, ◌∙◌, ap}
use Rattle.std.proofs.lemmas.Result.{err_from_is_err_and}
use Rattle.std.proofs.lemmas.List.{length-take-le}
use Rattle.hp_text.proofs.Drafts.{begins, none_spelled, smaller}
use Rattle.hp_text.proofs.LastLines.{read_none}
use Rattle.hp_text.proofs.Calls.{checks_on, piece_bad, end_bad, checked}
use Rattle.hp_text.proofs.checking.check_trace.Goals as goal

pub loop-n-init : goal.loop-n-init
loop-n-init g c = (rw (c.new-feed.ensures) (_, begins (g.R.Source.remaining c.args.reader.now)), refl)

pub loop-n-preserved : goal.loop-n-preserved
loop-n-preserved g c = (
  checks_on _ _ _ _ _ _ c.loop-n.invariant.0 c.in_ok-n.ensures.bytes c.in_ok-take_piece.ensures.held c.in_ok-take_piece.ensures.no_fault,
  c.in_ok-n.ensures.ok ∙ c.loop-n.invariant.1,
)

pub loop-n-smaller : goal.loop-n-smaller
loop-n-smaller g c =
    let len = length-take-le c.in_ok-n.n c.read_piece.new.piece c.in_ok-n.ensures.within in
    let some : 0 < length (take c.in_ok-n.n c.read_piece.new.piece) = omega arith in
    smaller _ _ _ _ _ _ c.loop-n.invariant.0.1 c.in_ok-take_piece.ensures.held c.in_ok-take_piece.ensures.no_fault some

pub returns-in_err-end-clause-bad : goal.returns-in_err-end-clause-bad
returns-in_err-end-clause-bad g c =
    let p = err_from_is_err_and c.from_residual-in_err-end.result c.from_residual-in_err-end.ensures.1 in
    let none = read_none _ _ _ _ c.if-n-eq0.true c.in_ok-n.ensures.bytes in
    rw (p.1, p.2) (end_bad _ _ _ _ c.in_err-end.field-0.0 c.loop-n.invariant.0 none
    (c.in_ok-n.ensures.end c.if-n-eq0.true (first_of (omega arith, search rules))) (sym c.in_err-end.ensures.value))

pub returns-in_err-end-clause-only : goal.returns-in_err-end-clause-only
returns-in_err-end-clause-only g c =
    let p = err_from_is_err_and c.from_residual-in_err-end.result c.from_residual-in_err-end.ensures.1 in
    let none = read_none _ _ _ _ c.if-n-eq0.true c.in_ok-n.ensures.bytes in
    rw (p.1, p.2) (none_spelled _ c.in_err-end.field-0.0 (end_bad _ _ _ _ c.in_err-end.field-0.0 c.loop-n.invariant.0 none
    (c.in_ok-n.ensures.end c.if-n-eq0.true (first_of (omega arith, search rules))) (sym c.in_err-end.ensures.value)))

pub returns-then-n-eq0-clause-ok : goal.returns-then-n-eq0-clause-ok
returns-then-n-eq0-clause-ok g c =
    let none = read_none _ _ _ _ c.if-n-eq0.true c.in_ok-n.ensures.bytes in
    checked _ _ _ _ _ c.loop-n.invariant.0 none (c.in_ok-n.ensures.end c.if-n-eq0.true (first_of (omega arith, search rules)))
    (sym c.in_ok-end.ensures.value) (ap (λ n. n - 1) c.line.ensures)

pub returns-in_err-take_piece-clause-bad : goal.returns-in_err-take_piece-clause-bad
returns-in_err-take_piece-clause-bad g c =
    let p = err_from_is_err_and c.from_residual-in_err-take_piece.result c.from_residual-in_err-take_piece.ensures.1 in
    rw (p.1, p.2) (piece_bad _ _ _ _ _ c.in_err-take_piece.field-0.0 c.loop-n.invariant.0 c.in_ok-n.ensures.bytes
    c.in_err-take_piece.ensures.err)

pub returns-in_err-take_piece-clause-only : goal.returns-in_err-take_piece-clause-only
returns-in_err-take_piece-clause-only g c =
    let p = err_from_is_err_and c.from_residual-in_err-take_piece.result c.from_residual-in_err-take_piece.ensures.1 in
    rw (p.1, p.2) (none_spelled _ c.in_err-take_piece.field-0.0 (piece_bad _ _ _ _ _ c.in_err-take_piece.field-0.0 c.loop-n.invariant.0
    c.in_ok-n.ensures.bytes c.in_err-take_piece.ensures.err))
