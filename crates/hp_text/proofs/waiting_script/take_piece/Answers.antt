use Rattle.std.proofs.Common.{◌∷◌, [], List, ℕ, length, length-append, sym, ap, arith}
use Rattle.std.proofs.lemmas.Result.{err_from_is_err_and}
use Rattle.std.proofs.lemmas.List.{append-nil}
use Rattle.hp_text.proofs.ScriptTakings.{piece_begins, piece_goes_on, piece_over, piece_faults, faults_long, faults_end, on_ok, of_err}
use Rattle.hp_text.proofs.waiting_script.take_piece.Goals as goal

pub loop-line-init : goal.loop-line-init
loop-line-init c = record { taken = piece_begins c.args.draft.now c.args.piece.now; room = omega arith }

pub returns-in_err-extend-clause-err : goal.returns-in_err-extend-clause-err
returns-in_err-extend-clause-err c =
    let p = err_from_is_err_and c.from_residual.result c.from_residual.ensures.1 in
    rw (p.1, p.2) (piece_faults c.args.draft.now c.loop-line.draft c.args.piece.now c.loop-line.left.now c.in_err-extend.field-0.0
    c.loop-line.invariant.taken
    (faults_long c.loop-line.draft c.loop-line.left.now c.in-Some.line.now (10 ∷ c.in-Some.behind.now) c.in_err-extend.field-0.0
    c.in-Some.ensures.parts c.in-Some.ensures.line c.in_err-extend.ensures.err))

pub returns-in_err-end_line-clause-err : goal.returns-in_err-end_line-clause-err
returns-in_err-end_line-clause-err c =
    let p = err_from_is_err_and c.from_residual-in_err-end_line.result c.from_residual-in_err-end_line.ensures.1 in
    rw (p.1, p.2) (piece_faults c.args.draft.now c.loop-line.draft c.args.piece.now c.loop-line.left.now c.in_err-end_line.field-0.0
    c.loop-line.invariant.taken
    (faults_end c.loop-line.draft c.extend.new.self c.loop-line.left.now c.in-Some.line.now c.in-Some.behind.now
    c.in_err-end_line.field-0.0 c.in-Some.ensures.parts c.in-Some.ensures.line c.in_ok-extend.ensures.ok
    c.in_err-end_line.ensures.err))

pub loop-line-preserved : goal.loop-line-preserved
loop-line-preserved c = record {
  taken =
      piece_goes_on c.args.draft.now c.loop-line.draft c.extend.new.self c.end_line.new.self c.args.piece.now c.loop-line.left.now
      c.in-Some.line.now c.in-Some.behind.now c.loop-line.invariant.taken c.in-Some.ensures.parts c.in-Some.ensures.line
      c.in_ok-extend.ensures.ok c.in_ok-end_line.ensures.ok;
  room =
      let long = ap (λ (x : List ℕ). length x) c.in-Some.ensures.parts in
      omega (
        arith,
        c.loop-line.invariant.room,
        c.in_ok-extend.ensures.room,
        c.in_ok-end_line.ensures.room,
        long,
        length-append c.in-Some.line.now (10 ∷ c.in-Some.behind.now),
      );
}

pub returns-clause-takes : goal.returns-clause-takes
returns-clause-takes c =
    on_ok c.extend-2.result (λ longer. piece_over c.args.draft.now c.loop-line.draft c.extend-2.new.self c.args.piece.now
    c.loop-line.left.now c.loop-line.invariant.taken c.in_default.ensures.none longer) c.extend-2.ensures.ok

pub returns-clause-err : goal.returns-clause-err
returns-clause-err c =
    of_err c.extend-2.result (λ fault wrong. piece_faults c.args.draft.now c.loop-line.draft c.args.piece.now c.loop-line.left.now fault
    c.loop-line.invariant.taken
    (faults_long c.loop-line.draft c.loop-line.left.now c.loop-line.left.now [] fault (sym (append-nil c.loop-line.left.now))
    c.in_default.ensures.none wrong)) c.extend-2.ensures.err
