use Rattle.std.proofs.Common.{ap, arith, refl, ◌∙◌}
use Rattle.std.proofs.lemmas.Result.{err_from_is_err_and}
use Rattle.hp_text.specs.Streams.{sink_at}
use Rattle.hp_explain.specs.Rows.{shown_text}
use Rattle.hp_explain.proofs.Happenings.{none_told, one_told, all_told, stopped_at}
use Rattle.hp_explain.proofs.rows.write_rows.Goals as goal

pub loop-event-init : goal.loop-event-init
loop-event-init g c = (
  none_told (shown_text c.args.view.now c.args.widths.now) c.args.events.now c.args.run.now.core c.args.run.now.holders.items
      (g.W.Sink.contents c.args.writer.now),
  refl,
  refl,
  c.requires.holders,
)

pub loop-event-preserved : goal.loop-event-preserved
loop-event-preserved g c = (
  one_told (shown_text c.args.view.now c.args.widths.now) c.args.events.now c.loop-event.event-index c.loop-event.line _ c.args.run.now.core
      c.loop-event.run.core _
      _ _ _ _ _ _ c.loop-event-test.true c.event-item.is c.loop-event.invariant.1 c.loop-event.invariant.0
      c.in_ok-write_row.ensures.ok,
  omega (arith, c.loop-event.invariant.1),
  c.in_ok-write_row.ensures.writes ∙ c.loop-event.invariant.2,
  c.in_ok-write_row.ensures.holders,
)

pub returns-in_err-write_row-clause-err : goal.returns-in_err-write_row-clause-err
returns-in_err-write_row-clause-err g c =
    let p = err_from_is_err_and c.from_residual.result c.from_residual.ensures.1 in
    rw (p.1, p.2) (
      c.in_err-write_row.ensures.err.0,
      stopped_at (shown_text c.args.view.now c.args.widths.now) c.args.events.now c.loop-event.event-index c.loop-event.line _ c.args.run.now.core
          c.loop-event.run.core
          _ _ _ _ _ c.loop-event-test.true c.event-item.is c.loop-event.invariant.1 c.loop-event.invariant.0
          c.in_err-write_row.ensures.err.1,
    )

pub returns-in_err-write_row-clause-writes : goal.returns-in_err-write_row-clause-writes
returns-in_err-write_row-clause-writes g c =
    let p = err_from_is_err_and c.from_residual.result c.from_residual.ensures.1 in
    rw (p.1, p.2) (c.in_err-write_row.ensures.writes ∙ ap (sink_at c.in_err-write_row.field-0.0) c.loop-event.invariant.2)

pub returns-clause-ok : goal.returns-clause-ok
returns-clause-ok g c =
    all_told (shown_text c.args.view.now c.args.widths.now) c.args.events.now c.loop-event.event-index c.args.run.now.core c.loop-event.run.core _ _ _ _
    c.loop-event-test.false c.loop-event.invariant.0
