use Rattle.std.proofs.Common.{sym}
use Rattle.std.specs.Io.BufRead.{take_through}
use Rattle.std.proofs.lemmas.Result.{err_from_is_err_and}
use Rattle.hp_text.proofs.Feeding.{stays, goes_on, ended_here, failed_here, all_taken}
use Rattle.hp_text.proofs.feed.TraceFeed.take.Goals as goal

pub returns-in-Some-clause-held : goal.returns-in-Some-clause-held
returns-in-Some-clause-held c =
    sym (stays c.args.self.now c.in-Some.fault (take_through 10 c.args.piece.now) (sym c.in-Some.ensures.value)).0

pub returns-in-Some-clause-none : goal.returns-in-Some-clause-none
returns-in-Some-clause-none c = (stays c.args.self.now c.in-Some.fault (take_through 10 c.args.piece.now) (sym c.in-Some.ensures.value)).1

pub loop-i-preserved : goal.loop-i-preserved
loop-i-preserved c =
    goes_on c.loop-i.self c.args.self.now c.push.new.self c.loop-i.i c.args.piece.now c.loop-i-test.true
    c.if-byte-eq10.false c.push.ensures.held c.in_ok-line.ensures.ok c.loop-i.invariant

pub returns-in_err-line-clause-held : goal.returns-in_err-line-clause-held
returns-in_err-line-clause-held c =
    (failed_here c.loop-i.self c.args.self.now c.push.new.self c.loop-i.i c.args.piece.now c.in_err-line.field-0.0
    c.loop-i-test.true c.push.ensures.held c.in_err-line.ensures.none c.in_err-line.ensures.err c.loop-i.invariant).0

pub returns-in_err-line-clause-none : goal.returns-in_err-line-clause-none
returns-in_err-line-clause-none c =
    let p = err_from_is_err_and c.from_residual.result c.from_residual.ensures.1 in
    rw (p.1) (failed_here c.loop-i.self c.args.self.now c.push.new.self c.loop-i.i c.args.piece.now
    c.in_err-line.field-0.0 c.loop-i-test.true c.push.ensures.held c.in_err-line.ensures.none
    c.in_err-line.ensures.err c.loop-i.invariant).1

pub returns-then-byte-eq10-clause-held : goal.returns-then-byte-eq10-clause-held
returns-then-byte-eq10-clause-held c =
    let e = ended_here c.loop-i.self c.args.self.now c.loop-i.i c.args.piece.now c.loop-i-test.true
    c.if-byte-eq10.true c.loop-i.invariant in
    cc (e.held, c.push.ensures.held)

pub returns-then-byte-eq10-clause-line : goal.returns-then-byte-eq10-clause-line
returns-then-byte-eq10-clause-line c =
    let e = ended_here c.loop-i.self c.args.self.now c.loop-i.i c.args.piece.now c.loop-i-test.true
    c.if-byte-eq10.true c.loop-i.invariant in
    rw (c.in_ok-line.ensures.line) e.lines

pub returns-clause-held : goal.returns-clause-held
returns-clause-held c = (all_taken c.loop-i.self c.args.self.now c.loop-i.i c.args.piece.now c.loop-i-test.false c.loop-i.invariant).0

pub returns-clause-line : goal.returns-clause-line
returns-clause-line c = (all_taken c.loop-i.self c.args.self.now c.loop-i.i c.args.piece.now c.loop-i-test.false c.loop-i.invariant).1
