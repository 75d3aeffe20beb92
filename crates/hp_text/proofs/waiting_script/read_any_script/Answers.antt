use Rattle.std.proofs.Common.{rules, ◌∙◌, arith}
use Rattle.std.proofs.lemmas.Result.{err_from_is_err_and}
use Rattle.hp_base.specs.Text.{sizes}
use Rattle.hp_text.proofs.LastLines.{read_none}
use Rattle.hp_text.proofs.ScriptTakings.{reading_goes_on, in_order_so_far, piece_wrong, end_wrong, script_read, of_ok, of_err}
use Rattle.hp_text.proofs.ScriptsOnce.{no_script}
use Rattle.hp_text.proofs.waiting_script.read_any_script.Goals as goal

pub whole-requires : goal.whole-requires
whole-requires g c = in_order_so_far _ _ _ c.loop-draft.invariant.reading

pub returns-then-n-eq0-clause-ok : goal.returns-then-n-eq0-clause-ok
returns-then-n-eq0-clause-ok g c =
    let none = read_none _ _ _ _ c.if-n-eq0.true c.in_ok-n.ensures.bytes in
    let end = c.in_ok-n.ensures.end c.if-n-eq0.true (first_of (omega arith, search rules)) in
    of_ok c.whole.result
    (λ script is. script_read _ _ _ _
    (sizes script.config) script.calls.items script.waits.items c.loop-draft.invariant.reading none end is)
    c.whole.ensures.ok

pub returns-then-n-eq0-clause-bad : goal.returns-then-n-eq0-clause-bad
returns-then-n-eq0-clause-bad g c =
    let none = read_none _ _ _ _ c.if-n-eq0.true c.in_ok-n.ensures.bytes in
    let end = c.in_ok-n.ensures.end c.if-n-eq0.true (first_of (omega arith, search rules)) in
    of_err c.whole.result (λ fault wrong. end_wrong _ _ _ _ fault c.loop-draft.invariant.reading none end wrong) c.whole.ensures.err

pub returns-then-n-eq0-clause-only : goal.returns-then-n-eq0-clause-only
returns-then-n-eq0-clause-only g c =
    let none = read_none _ _ _ _ c.if-n-eq0.true c.in_ok-n.ensures.bytes in
    let end = c.in_ok-n.ensures.end c.if-n-eq0.true (first_of (omega arith, search rules)) in
    of_err c.whole.result
    (λ fault wrong. no_script _ fault (end_wrong _ _ _ _ fault c.loop-draft.invariant.reading none end wrong)) c.whole.ensures.err

pub loop-draft-preserved : goal.loop-draft-preserved
loop-draft-preserved g c = record {
  reading = reading_goes_on _ _ _ _ _ _ c.loop-draft.invariant.reading c.in_ok-n.ensures.bytes c.in_ok-take_piece.ensures.takes;
  reads = c.in_ok-n.ensures.ok ∙ c.loop-draft.invariant.reads;
}

pub returns-in_err-take_piece-clause-bad : goal.returns-in_err-take_piece-clause-bad
returns-in_err-take_piece-clause-bad g c =
    let p = err_from_is_err_and c.from_residual-in_err-take_piece.result c.from_residual-in_err-take_piece.ensures.1 in
    rw (p.1, p.2) (piece_wrong _ _ _ _ _ c.in_err-take_piece.field-0.0 c.loop-draft.invariant.reading c.in_ok-n.ensures.bytes
    c.in_err-take_piece.ensures.err)

pub returns-in_err-take_piece-clause-only : goal.returns-in_err-take_piece-clause-only
returns-in_err-take_piece-clause-only g c =
    let p = err_from_is_err_and c.from_residual-in_err-take_piece.result c.from_residual-in_err-take_piece.ensures.1 in
    rw (p.1, p.2) (no_script _ c.in_err-take_piece.field-0.0
    (piece_wrong _ _ _ _ _ c.in_err-take_piece.field-0.0 c.loop-draft.invariant.reading c.in_ok-n.ensures.bytes
    c.in_err-take_piece.ensures.err))
