use Rattle.std.proofs.Common.{◌∙◌, [], arith, refl, sym, inr}
use Rattle.std.proofs.lemmas.Grind.{common_steps}
use Rattle.hp_core.proofs.RunsOn.{ran_none, ran_next, ran_all, ran_empty, ran_stopped, told_long, wanted_at}
use Rattle.hp_core.proofs.core_state.Core.run.Goals as goal

pub loop-event-init : goal.loop-event-init
loop-event-init c = record {
  ran = ran_none _ _ (c.reserve.ensures.items ∙ c.new-outcomes.ensures.items);
  capacity = grind (arith, common_steps);
  head = c.always.ensures.headline;
}

pub loop-event-preserved : goal.loop-event-preserved
loop-event-preserved c = record {
  ran =
      ran_next _ _ _ _ _ _ _ _ _ c.loop-event-test.true c.event-item.is c.push_reserved.ensures.items
      c.loop-event.invariant.ran c.in-Ok.ensures.row;
  capacity = omega (arith, c.push_reserved.ensures.capacity, c.loop-event.invariant.capacity);
  head = c.in-Ok.ensures.headline;
}

pub push_reserved-requires : goal.push_reserved-requires
push_reserved-requires c =
    let within = c.loop-event-test.true in
    let long = told_long _ _ _ _ _ (omega (arith, within)) c.loop-event.invariant.ran in
    omega (arith, long, within, c.loop-event.invariant.capacity)

pub returns-clause-run : goal.returns-clause-run
returns-clause-run c = ran_all _ _ _ _ _ c.loop-event-test.false c.loop-event.invariant.ran

pub returns-in-Err-clause-stopped : goal.returns-in-Err-clause-stopped
returns-in-Err-clause-stopped c =
    let within = c.loop-event-test.true in
    ran_stopped _ _ _ _ _ _ _ (omega (arith, within)) (omega (arith, c.len.ensures)) c.in-Err.ensures.err c.loop-event.invariant.ran

pub returns-in-Err-clause-within : goal.returns-in-Err-clause-within
returns-in-Err-clause-within c =
    let within = c.loop-event-test.true in
    let long = told_long _ _ _ _ _ (omega (arith, within)) c.loop-event.invariant.ran in
    omega (arith, long, within, c.len.ensures)

pub returns-then-is_err-clause-stopped : goal.returns-then-is_err-clause-stopped
returns-then-is_err-clause-stopped c = ([], ran_none _ _ refl)

pub returns-then-is_empty-clause-run : goal.returns-then-is_empty-clause-run
returns-then-is_empty-clause-run c = ran_empty _ _ _ (sym c.is_empty.ensures ∙ c.if-is_empty.true) c.new-outcomes.ensures.items

pub returns-in-Err-clause-wanted : goal.returns-in-Err-clause-wanted
returns-in-Err-clause-wanted c =
    let within = c.loop-event-test.true in
    let long = told_long _ _ _ _ _ (omega (arith, within)) c.loop-event.invariant.ran in
    inr (wanted_at _ _ _ _ _ _ within c.event-item.is (omega (arith, c.len.ensures, long)) c.in-Err.ensures.err c.in-Err.ensures.growth)
