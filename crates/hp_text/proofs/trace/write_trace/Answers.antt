use Rattle.std.proofs.Common.{ap, ◌∙◌}
use Rattle.std.proofs.lemmas.Bool.{and_from}
use Rattle.std.proofs.lemmas.Result.{err_from_is_err_and}
use Rattle.hp_base.specs.Text.{sizes}
use Rattle.hp_text.specs.Streams.{sink_at}
use Rattle.hp_text.proofs.WrittenTraces.{header_written, header_stopped, event_written, event_stopped, all_written, written_is}
use Rattle.hp_text.proofs.trace.write_trace.Goals as goal

pub returns-in_err-write_line-clause-err : goal.returns-in_err-write_line-clause-err
returns-in_err-write_line-clause-err g c =
    let p = err_from_is_err_and c.from_residual.result c.from_residual.ensures.1 in
    rw (p.1, p.2) (
      c.in_err-write_line.ensures.front.0,
      header_stopped _ _ (sizes c.args.trace.now.config) c.args.trace.now.events.items c.in_err-write_line.ensures.front.1,
    )

pub loop-event-init : goal.loop-event-init
loop-event-init g c = (
  header_written _ _ (sizes c.args.trace.now.config) c.args.trace.now.events.items c.in_ok-write_line.ensures.ok,
  c.in_ok-write_line.ensures.writes,
)

pub loop-event-preserved : goal.loop-event-preserved
loop-event-preserved g c = (
  event_written _ _ _ (sizes c.args.trace.now.config) c.args.trace.now.events.items c.deref-event-items.result.now
      c.loop-event.event-index c.event-item.result c.deref-event-items.ensures.value c.loop-event-test.true
      c.event-item.is c.loop-event.invariant.0 c.write_event.ensures.fits c.in_ok-write_event.ensures.ok,
  c.in_ok-write_event.ensures.writes ∙ c.loop-event.invariant.1,
)

pub returns-in_err-write_event-clause-err : goal.returns-in_err-write_event-clause-err
returns-in_err-write_event-clause-err g c =
    let p = err_from_is_err_and c.from_residual-in_err-write_event.result c.from_residual-in_err-write_event.ensures.1 in
    rw (p.1, p.2) (
      c.in_err-write_event.ensures.err.0,
      event_stopped _ _ _ (sizes c.args.trace.now.config) c.args.trace.now.events.items c.deref-event-items.result.now
          c.loop-event.event-index c.event-item.result c.deref-event-items.ensures.value c.loop-event-test.true
          c.event-item.is c.loop-event.invariant.0 c.in_err-write_event.ensures.err.1,
    )

pub returns-clause-ok : goal.returns-clause-ok
returns-clause-ok g c =
    all_written _ _ (sizes c.args.trace.now.config) c.args.trace.now.events.items c.deref-event-items.result.now
    c.loop-event.event-index c.deref-event-items.ensures.value c.loop-event-test.false c.loop-event.invariant.0

pub returns-clause-spells : goal.returns-clause-spells
returns-clause-spells g c =
    written_is _ _ (sizes c.args.trace.now.config) c.args.trace.now.events.items c.deref-event-items.result.now
    c.loop-event.event-index c.deref-event-items.ensures.value c.loop-event-test.false c.loop-event.invariant.0
    (and_from _ _ c.args.trace.now.config.within_limits c.args.trace.now.config.within_quota) c.requires

pub returns-in_err-write_event-clause-writes : goal.returns-in_err-write_event-clause-writes
returns-in_err-write_event-clause-writes g c =
    let p = err_from_is_err_and c.from_residual-in_err-write_event.result c.from_residual-in_err-write_event.ensures.1 in
    rw (p.1, p.2) (c.in_err-write_event.ensures.writes ∙ ap (sink_at c.in_err-write_event.field-0.0) c.loop-event.invariant.1)

pub returns-clause-writes : goal.returns-clause-writes
returns-clause-writes g c = c.loop-event.invariant.1
