use Rattle.std.proofs.Common.{List, ap, arith, length, subst, ◌∙◌}
use Rattle.std.specs.Prelude.{IsTrue}
use Rattle.hp_base.specs.Text.{Sizes, sizes}
use Rattle.hp_explain.specs.Views.{is_shown}
use Rattle.hp_explain.specs.Widths.{HasRoom, NoneNarrower}
use Rattle.hp_explain.proofs.Widths.{all_rooms, one_room, written}
use Rattle.hp_explain.proofs.measuring.measure.Goals as goal

pub loop-event-preserved : goal.loop-event-preserved
loop-event-preserved c =
    let w = c.in_ok-measure_event.ensures in
    let back = written c.loop-event.widths.len c.loop-event.widths.items c.as_mut_slice.result.now c.measure_event.new.widths
    c.as_mut_slice.ensures.value c.loop-event.widths.ok.0 w.grows.count in
    rw back (
      w.grows.count ∙ ap length c.as_mut_slice.ensures.value ∙ c.loop-event.invariant.0,
      w.config ∙ c.loop-event.invariant.1,
      one_room c.args.view.now (sizes c.args.config).tasks c.args.events.now c.loop-event.event-index c.loop-event.line _
          c.loop-event.widths.items c.measure_event.new.widths c.loop-event-test.true c.event-item.is c.loop-event.invariant.3
          (subst (λ (x : List _). NoneNarrower x c.measure_event.new.widths) c.as_mut_slice.ensures.value w.grows)
          (subst (λ (s : Sizes). IsTrue (is_shown c.args.view.now c.loop-event.line c.event-item.result)
          → HasRoom c.args.view.now.compact s.tasks c.measure_event.new.widths c.event-item.result) c.loop-event.invariant.1 w.room)
          c.loop-event.invariant.2,
      omega (arith, c.loop-event.invariant.3),
    )

pub returns-clause-rooms : goal.returns-clause-rooms
returns-clause-rooms c =
    all_rooms c.args.view.now (sizes c.args.config).tasks c.args.events.now c.loop-event.event-index
    c.loop-event.widths.items c.loop-event-test.false c.loop-event.invariant.2
