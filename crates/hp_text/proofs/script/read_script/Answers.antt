use Rattle.std.proofs.Common.{arith, rules, ◌<◌, length, take, refl, sym, ◌∙◌}
use Rattle.std.proofs.lemmas.Result.{err_from_is_err_and}
use Rattle.std.proofs.lemmas.List.{length-take-le}
use Rattle.hp_text.proofs.StreamFaults.{line_no_read}
use Rattle.hp_text.proofs.LastLines.{read_none}
use Rattle.hp_text.proofs.Drafts.{begins, goes_on, smaller, counts, some_lines}
use Rattle.hp_text.proofs.Calls.{piece_fault, piece_no_read, end_fault_of, no_script, events_call, script_read}
use Rattle.hp_text.proofs.script.read_script.Goals as goal

pub loop-draft-init : goal.loop-draft-init
loop-draft-init g c =
    (rw (c.new-feed.ensures, c.new-draft.ensures) (begins (g.R.Source.remaining c.args.reader.now)), rw (c.new-draft.ensures) tt, refl)

pub loop-draft-preserved : goal.loop-draft-preserved
loop-draft-preserved g c = (
  goes_on _ _ _ _ _ _ _ _ c.loop-draft.invariant.0 c.in_ok-n.ensures.bytes c.in_ok-add_calls.ensures.held
      c.in_ok-add_calls.ensures.lines c.in_ok-add_calls.ensures.no_fault,
  c.in_ok-add_calls.ensures.calls,
  c.in_ok-n.ensures.ok ∙ c.loop-draft.invariant.2,
)

pub loop-draft-smaller : goal.loop-draft-smaller
loop-draft-smaller g c =
    let len = length-take-le c.in_ok-n.n c.read_piece.new.piece c.in_ok-n.ensures.within in
    let some : 0 < length (take c.in_ok-n.n c.read_piece.new.piece) = omega arith in
    smaller _ _ _ _ _ _ c.loop-draft.invariant.0 c.in_ok-add_calls.ensures.held c.in_ok-add_calls.ensures.no_fault some

pub add_calls-requires-clause-lines : goal.add_calls-requires-clause-lines
add_calls-requires-clause-lines g c = counts _ _ _ _ c.loop-draft.invariant.0

pub whole-trace-requires : goal.whole-trace-requires
whole-trace-requires g c = some_lines _ _ _ _ c.loop-draft.invariant.0 (sym c.in_ok-end.ensures.value)

pub script_of-requires : goal.script_of-requires
script_of-requires g c = events_call _ _ _ c.loop-draft.invariant.1 c.whole-trace.ensures

pub returns-in_err-end-clause-bad : goal.returns-in_err-end-clause-bad
returns-in_err-end-clause-bad g c =
    let p = err_from_is_err_and c.from_residual-in_err-end.result c.from_residual-in_err-end.ensures.1 in
    let none = read_none _ _ _ _ c.if-n-eq0.true c.in_ok-n.ensures.bytes in
    rw (p.1, p.2) (end_fault_of _ _ _ _ _ c.in_err-end.field-0.0 c.loop-draft.invariant.0 c.loop-draft.invariant.1 none
    (c.in_ok-n.ensures.end c.if-n-eq0.true (first_of (omega arith, search rules))) (sym c.in_err-end.ensures.value))

pub returns-in_err-end-clause-only : goal.returns-in_err-end-clause-only
returns-in_err-end-clause-only g c =
    let p = err_from_is_err_and c.from_residual-in_err-end.result c.from_residual-in_err-end.ensures.1 in
    let none = read_none _ _ _ _ c.if-n-eq0.true c.in_ok-n.ensures.bytes in
    rw (p.1, p.2) (no_script _ c.in_err-end.field-0.0
    (end_fault_of _ _ _ _ _ c.in_err-end.field-0.0 c.loop-draft.invariant.0 c.loop-draft.invariant.1 none
    (c.in_ok-n.ensures.end c.if-n-eq0.true (first_of (omega arith, search rules))) (sym c.in_err-end.ensures.value)))

pub returns-then-n-eq0-clause-ok : goal.returns-then-n-eq0-clause-ok
returns-then-n-eq0-clause-ok g c =
    let none = read_none _ _ _ _ c.if-n-eq0.true c.in_ok-n.ensures.bytes in
    script_read _ _ _ _ _ _ _ _ _ c.loop-draft.invariant.0 none
    (c.in_ok-n.ensures.end c.if-n-eq0.true (first_of (omega arith, search rules))) (sym c.in_ok-end.ensures.value) c.whole-trace.ensures
    c.in_ok-script.ensures.config c.in_ok-script.ensures.calls

pub returns-in_err-add_calls-clause-bad : goal.returns-in_err-add_calls-clause-bad
returns-in_err-add_calls-clause-bad g c =
    let p = err_from_is_err_and c.from_residual-in_err-add_calls.result c.from_residual-in_err-add_calls.ensures.1 in
    rw (p.1, p.2) (piece_fault _ _ _ _ _ _ c.in_err-add_calls.field-0.0 c.loop-draft.invariant.0 c.in_ok-n.ensures.bytes
    c.in_err-add_calls.ensures.err)

pub returns-in_err-add_calls-clause-only : goal.returns-in_err-add_calls-clause-only
returns-in_err-add_calls-clause-only g c =
    let p = err_from_is_err_and c.from_residual-in_err-add_calls.result c.from_residual-in_err-add_calls.ensures.1 in
    rw (p.1, p.2) (no_script _ c.in_err-add_calls.field-0.0
    (piece_fault _ _ _ _ _ _ c.in_err-add_calls.field-0.0 c.loop-draft.invariant.0 c.in_ok-n.ensures.bytes c.in_err-add_calls.ensures.err))

pub returns-in_err-add_calls-clause-reads : goal.returns-in_err-add_calls-clause-reads
returns-in_err-add_calls-clause-reads g c =
    let p = err_from_is_err_and c.from_residual-in_err-add_calls.result c.from_residual-in_err-add_calls.ensures.1 in
    rw (p.1, p.2) ((c.in_ok-n.ensures.ok ∙ c.loop-draft.invariant.2)
    ∙ piece_no_read c.in_err-add_calls.field-0.0 _ _ _ _ c.in_err-add_calls.ensures.err)

pub returns-in_err-end-clause-reads : goal.returns-in_err-end-clause-reads
returns-in_err-end-clause-reads g c =
    let p = err_from_is_err_and c.from_residual-in_err-end.result c.from_residual-in_err-end.ensures.1 in
    rw (p.1, p.2) ((c.in_ok-n.ensures.ok ∙ c.loop-draft.invariant.2)
    ∙ line_no_read c.in_err-end.field-0.0 _ c.in_err-end.ensures.kind)
