use Rattle.std.proofs.Common.{arith, rules, ◌<◌, length, take, refl, sym, ◌∙◌}
use Rattle.std.proofs.lemmas.Result.{err_from_is_err_and}
use Rattle.std.proofs.lemmas.List.{length-take-le}
use Rattle.hp_text.proofs.StreamFaults.{line_no_read, not_kept_no_read}
use Rattle.hp_text.proofs.LastLines.{read_none}
use Rattle.hp_text.proofs.Drafts.{begins, goes_on, smaller, counts, piece_failed, end_failed, read_failed, some_lines, trace_read}
use Rattle.hp_text.proofs.trace.read_trace.Goals as goal

pub loop-draft-init : goal.loop-draft-init
loop-draft-init g c =
    (rw (c.new-feed.ensures, c.new-draft.ensures) (begins (g.R.Source.remaining c.args.reader.now)), refl)

pub loop-draft-preserved : goal.loop-draft-preserved
loop-draft-preserved g c = (
  goes_on _ _ _ _ _ _ _ _ c.loop-draft.invariant.0 c.in_ok-n.ensures.bytes c.in_ok-add_piece.ensures.held
      c.in_ok-add_piece.ensures.lines c.in_ok-add_piece.ensures.no_fault,
  c.in_ok-n.ensures.ok ∙ c.loop-draft.invariant.1,
)

pub loop-draft-smaller : goal.loop-draft-smaller
loop-draft-smaller g c =
    let len = length-take-le c.in_ok-n.n c.read_piece.new.piece c.in_ok-n.ensures.within in
    let some : 0 < length (take c.in_ok-n.n c.read_piece.new.piece) = omega arith in
    smaller _ _ _ _ _ _ c.loop-draft.invariant.0 c.in_ok-add_piece.ensures.held c.in_ok-add_piece.ensures.no_fault some

pub add_piece-requires-clause-lines : goal.add_piece-requires-clause-lines
add_piece-requires-clause-lines g c = counts _ _ _ _ c.loop-draft.invariant.0

pub whole-requires : goal.whole-requires
whole-requires g c = some_lines _ _ _ _ c.loop-draft.invariant.0 (sym c.in_ok-end.ensures.value)

pub returns-in_err-end-clause-stopped : goal.returns-in_err-end-clause-stopped
returns-in_err-end-clause-stopped g c =
    let p = err_from_is_err_and c.from_residual-in_err-end.result c.from_residual-in_err-end.ensures.1 in
    let none = read_none _ _ _ _ c.if-n-eq0.true c.in_ok-n.ensures.bytes in
    rw (p.1, p.2) (end_failed _ _ _ _ _ c.in_err-end.field-0.0 c.loop-draft.invariant.0 none
    (c.in_ok-n.ensures.end c.if-n-eq0.true (first_of (omega arith, search rules))) (sym c.in_err-end.ensures.value)).is

pub returns-in_err-end-clause-bad : goal.returns-in_err-end-clause-bad
returns-in_err-end-clause-bad g c =
    let p = err_from_is_err_and c.from_residual-in_err-end.result c.from_residual-in_err-end.ensures.1 in
    let none = read_none _ _ _ _ c.if-n-eq0.true c.in_ok-n.ensures.bytes in
    rw (p.1, p.2) (end_failed _ _ _ _ _ c.in_err-end.field-0.0 c.loop-draft.invariant.0 none
    (c.in_ok-n.ensures.end c.if-n-eq0.true (first_of (omega arith, search rules))) (sym c.in_err-end.ensures.value)).bad

pub returns-in_err-end-clause-only : goal.returns-in_err-end-clause-only
returns-in_err-end-clause-only g c =
    let p = err_from_is_err_and c.from_residual-in_err-end.result c.from_residual-in_err-end.ensures.1 in
    let none = read_none _ _ _ _ c.if-n-eq0.true c.in_ok-n.ensures.bytes in
    rw (p.1, p.2) (end_failed _ _ _ _ _ c.in_err-end.field-0.0 c.loop-draft.invariant.0 none
    (c.in_ok-n.ensures.end c.if-n-eq0.true (first_of (omega arith, search rules))) (sym c.in_err-end.ensures.value)).only

pub returns-then-n-eq0-clause-ok : goal.returns-then-n-eq0-clause-ok
returns-then-n-eq0-clause-ok g c =
    let none = read_none _ _ _ _ c.if-n-eq0.true c.in_ok-n.ensures.bytes in
    trace_read _ _ _ _ _ _ _ c.loop-draft.invariant.0 none
    (c.in_ok-n.ensures.end c.if-n-eq0.true (first_of (omega arith, search rules))) (sym c.in_ok-end.ensures.value) c.whole.ensures

pub returns-in_err-add_piece-clause-stopped : goal.returns-in_err-add_piece-clause-stopped
returns-in_err-add_piece-clause-stopped g c =
    let p = err_from_is_err_and c.from_residual-in_err-add_piece.result c.from_residual-in_err-add_piece.ensures.1 in
    rw (p.1, p.2) (piece_failed _ _ _ c.loop-draft.feed c.add_piece.new.feed _ _ c.in_err-add_piece.field-0.0
    c.loop-draft.invariant.0 c.in_ok-n.ensures.bytes c.in_err-add_piece.ensures.err).is

pub returns-in_err-add_piece-clause-bad : goal.returns-in_err-add_piece-clause-bad
returns-in_err-add_piece-clause-bad g c =
    let p = err_from_is_err_and c.from_residual-in_err-add_piece.result c.from_residual-in_err-add_piece.ensures.1 in
    rw (p.1, p.2) (piece_failed _ _ _ c.loop-draft.feed c.add_piece.new.feed _ _ c.in_err-add_piece.field-0.0
    c.loop-draft.invariant.0 c.in_ok-n.ensures.bytes c.in_err-add_piece.ensures.err).bad

pub returns-in_err-add_piece-clause-only : goal.returns-in_err-add_piece-clause-only
returns-in_err-add_piece-clause-only g c =
    let p = err_from_is_err_and c.from_residual-in_err-add_piece.result c.from_residual-in_err-add_piece.ensures.1 in
    rw (p.1, p.2) (piece_failed _ _ _ c.loop-draft.feed c.add_piece.new.feed _ _ c.in_err-add_piece.field-0.0
    c.loop-draft.invariant.0 c.in_ok-n.ensures.bytes c.in_err-add_piece.ensures.err).only

pub returns-in_err-end-clause-reads : goal.returns-in_err-end-clause-reads
returns-in_err-end-clause-reads g c =
    let p = err_from_is_err_and c.from_residual-in_err-end.result c.from_residual-in_err-end.ensures.1 in
    rw (p.1, p.2) ((c.in_ok-n.ensures.ok ∙ c.loop-draft.invariant.1)
    ∙ line_no_read c.in_err-end.field-0.0 _ c.in_err-end.ensures.kind)

pub returns-then-n-eq0-clause-reads : goal.returns-then-n-eq0-clause-reads
returns-then-n-eq0-clause-reads g c = c.in_ok-n.ensures.ok ∙ c.loop-draft.invariant.1

pub returns-in_err-add_piece-clause-reads : goal.returns-in_err-add_piece-clause-reads
returns-in_err-add_piece-clause-reads g c =
    let p = err_from_is_err_and c.from_residual-in_err-add_piece.result c.from_residual-in_err-add_piece.ensures.1 in
    rw (p.1, p.2) ((c.in_ok-n.ensures.ok ∙ c.loop-draft.invariant.1)
    ∙ not_kept_no_read c.in_err-add_piece.field-0.0 _ _ _ _ c.in_err-add_piece.ensures.err)

pub returns-in_err-n-clause-stopped : goal.returns-in_err-n-clause-stopped
returns-in_err-n-clause-stopped g c =
    let p = err_from_is_err_and c.from_residual.result c.from_residual.ensures.1 in
    rw (p.1, p.2, c.in_err-n.ensures.err.0) (read_failed _ _ _ _ _ c.loop-draft.invariant.0 c.in_err-n.ensures.err.2).is
