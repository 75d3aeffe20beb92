use Rattle.std.proofs.Common.{ℕ, arith, rules, ◌<◌, length, take, refl, subst, ◌∙◌}
use Rattle.std.proofs.lemmas.Result.{err_from_is_err_and}
use Rattle.std.proofs.lemmas.List.{length-take-le}
use Rattle.hp_text.specs.Streams.{TellsWrites}
use Rattle.hp_replay.proofs.Told.{stopped_no_read, stopped_no_write, finish_no_read}
use Rattle.hp_replay.proofs.Replays.{begins, goes_on, smaller, piece_stopped, read_failed, finished, finish_stopped}
use Rattle.hp_text.proofs.LastLines.{read_none}
use Rattle.hp_replay.proofs.Replays.{ran_written, stopped_written, came, unwritten}
use Rattle.hp_replay.proofs.replaying.replay.Goals as goal

pub loop-lines-init : goal.loop-lines-init
loop-lines-init g c =
    (rw c.new-feed.ensures (begins (g.R.Source.remaining c.args.reader.now) (g.W.Sink.contents c.args.writer.now)), refl, refl)

pub loop-lines-preserved : goal.loop-lines-preserved
loop-lines-preserved g c = (
  goes_on _ _ _ _ _ _ _ _ _ _ _ c.loop-lines.invariant.0 c.in_ok-n.ensures.bytes
      (ran_written _ _ _ _ _ _ _ _ _ c.clear.ensures c.in_ok-ran.ensures.ok c.in_ok-write.ensures.ok)
      c.in_ok-ran.ensures.no_fault c.in_ok-ran.ensures.opened,
  c.in_ok-n.ensures.ok ∙ c.loop-lines.invariant.1,
  c.in_ok-write.ensures.writes ∙ c.loop-lines.invariant.2,
)

pub loop-lines-smaller : goal.loop-lines-smaller
loop-lines-smaller g c =
    let len = length-take-le c.in_ok-n.n c.read_piece.new.piece c.in_ok-n.ensures.within in
    let some : 0 < length (take c.in_ok-n.n c.read_piece.new.piece) = omega arith in
    smaller _ _ _ _ _ _ _ _ _ _ c.loop-lines.invariant.0
    (ran_written _ _ _ _ _ _ _ _ _ c.clear.ensures c.in_ok-ran.ensures.ok c.in_ok-write.ensures.ok)
    c.in_ok-ran.ensures.no_fault some

pub returns-in_err-n-clause-err : goal.returns-in_err-n-clause-err
returns-in_err-n-clause-err g c =
    let p = err_from_is_err_and c.from_residual.result c.from_residual.ensures.1 in
    rw (p.1, p.2, c.in_err-n.ensures.err.0) (read_failed _ _ _ _ _ _ _ c.loop-lines.invariant.0 c.in_err-n.ensures.err.2)

pub returns-then-n-eq0-clause-ok : goal.returns-then-n-eq0-clause-ok
returns-then-n-eq0-clause-ok g c =
    let none = read_none _ _ _ _ c.if-n-eq0.true c.in_ok-n.ensures.bytes in
    finished _ _ _ c.loop-lines.feed c.loop-lines.core _ _ _ c.finish.result c.loop-lines.invariant.0 none
    (c.in_ok-n.ensures.end c.if-n-eq0.true (first_of (omega arith, search rules))) c.finish.ensures.ended c.finish.ensures.wrote

pub returns-then-n-eq0-clause-err : goal.returns-then-n-eq0-clause-err
returns-then-n-eq0-clause-err g c =
    let none = read_none _ _ _ _ c.if-n-eq0.true c.in_ok-n.ensures.bytes in
    finish_stopped _ _ _ c.loop-lines.feed c.loop-lines.core _ _ _ c.finish.result c.loop-lines.invariant.0 none
    (c.in_ok-n.ensures.end c.if-n-eq0.true (first_of (omega arith, search rules))) c.finish.ensures.err

pub returns-then-n-eq0-clause-reads : goal.returns-then-n-eq0-clause-reads
returns-then-n-eq0-clause-reads g c =
    finish_no_read c.loop-lines.feed c.loop-lines.core _ _ c.finish.result _ _ c.finish.ensures.err
    (c.in_ok-n.ensures.ok ∙ c.loop-lines.invariant.1)

pub returns-then-n-eq0-clause-writes : goal.returns-then-n-eq0-clause-writes
returns-then-n-eq0-clause-writes g c =
    subst (λ (failures : ℕ). TellsWrites c.finish.result failures (g.W.Sink.failures c.finish.new.writer))
    c.loop-lines.invariant.2 c.finish.ensures.writes

pub returns-in_err-write-clause-err : goal.returns-in_err-write-clause-err
returns-in_err-write-clause-err g c =
    let p = err_from_is_err_and c.from_residual-in_err-write.result c.from_residual-in_err-write.ensures.1 in
    rw (p.1, p.2, c.in_err-write.ensures.front.0)
    (unwritten _ _ _ c.loop-lines.feed c.run_piece-ran.new.feed c.loop-lines.core c.run_piece-ran.new.core _ _ _ _ _ _
    c.run_piece-ran.result c.loop-lines.invariant.0 c.in_ok-n.ensures.bytes c.clear.ensures
    (came c.run_piece-ran.result _ _ _ _ _ _ _ c.run_piece-ran.ensures.ok c.run_piece-ran.ensures.no_fault
    c.run_piece-ran.ensures.err) c.in_err-write.ensures.front.1)

pub returns-in_err-ran-clause-err : goal.returns-in_err-ran-clause-err
returns-in_err-ran-clause-err g c =
    let p = err_from_is_err_and c.from_residual-in_err-ran.result c.from_residual-in_err-ran.ensures.1 in
    rw (p.1, p.2) (piece_stopped _ _ _ c.loop-lines.feed c.run_piece-ran.new.feed c.loop-lines.core c.run_piece-ran.new.core _ _
    _ _ c.in_err-ran.field-0.0 c.loop-lines.invariant.0 c.in_ok-n.ensures.bytes
    (stopped_written c.in_err-ran.field-0.0 _ _ _ _ _ _ _ _ _ c.clear.ensures c.in_err-ran.ensures.err c.in_ok-write.ensures.ok))

pub returns-in_err-ran-clause-reads : goal.returns-in_err-ran-clause-reads
returns-in_err-ran-clause-reads g c =
    let p = err_from_is_err_and c.from_residual-in_err-ran.result c.from_residual-in_err-ran.ensures.1 in
    rw (p.1, p.2) ((c.in_ok-n.ensures.ok ∙ c.loop-lines.invariant.1)
    ∙ stopped_no_read c.in_err-ran.field-0.0 _ _ _ _ _ _ _ _ c.in_err-ran.ensures.err)

pub returns-in_err-ran-clause-writes : goal.returns-in_err-ran-clause-writes
returns-in_err-ran-clause-writes g c =
    let p = err_from_is_err_and c.from_residual-in_err-ran.result c.from_residual-in_err-ran.ensures.1 in
    rw (p.1, p.2) ((c.in_ok-write.ensures.writes ∙ c.loop-lines.invariant.2)
    ∙ stopped_no_write c.in_err-ran.field-0.0 _ _ _ _ _ _ _ _ c.in_err-ran.ensures.err)
