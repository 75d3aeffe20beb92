use Rattle.std.proofs.Common.{arith, refl}
use Rattle.hp_base.specs.Text.{sizes}
use Rattle.hp_draw.specs.Sketches.{seen}
use Rattle.hp_draw.proofs.Runs.{nothing_yet, one_event, whole_run}
use Rattle.hp_draw.proofs.sketch.sketch_run.Goals as goal

pub loop-event-init : goal.loop-event-init
loop-event-init c = (
  refl,
  nothing_yet (sizes c.args.trace.now.config).tasks c.args.trace.now.events.items c.in_ok-run.run'.core (seen c.in_ok-sketch.sketch)
      c.in_ok-sketch.ensures,
)

pub loop-event-preserved : goal.loop-event-preserved
loop-event-preserved c = (
  omega (arith, c.loop-event.invariant.0),
  one_event (sizes c.args.trace.now.config).tasks c.args.trace.now.events.items c.deref-event-items.result.now c.loop-event.event-index
      c.loop-event.at _ c.in_ok-outcome.outcome c.in_ok-run.run'.core c.loop-event.run.core c.happen.new.self.core
      c.happen.new.self.holders.items c.happen.new.self.from (seen c.loop-event.sketch)
      (seen c.add_event.new.sketch) c.deref-event-items.ensures.value c.loop-event-test.true c.event-item.is
      c.loop-event.invariant.0 c.loop-event.invariant.1 c.in_ok-outcome.ensures.row
      c.in_ok-outcome.ensures.holders c.in_ok-outcome.ensures.from c.in_ok-add_event.ensures,
)

pub returns : goal.returns
returns c =
    whole_run c.args.trace.now.config c.args.trace.now.events.items c.deref-event-items.result.now c.loop-event.event-index
    c.loop-event.at c.in_ok-run.run'.core c.loop-event.run.core (seen c.loop-event.sketch) (seen c.end_sketch.new.sketch)
    c.deref-event-items.ensures.value c.loop-event-test.false c.loop-event.invariant.0 c.in_ok-run.ensures.opening
    c.loop-event.invariant.1 c.in_ok-end_sketch.ensures
