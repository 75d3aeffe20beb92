use Rattle.std.proofs.Common.{◌≡◌, ap, sym, ◌∙◌, arith}
use Rattle.hp_core.specs.State.{as_state}
use Rattle.hp_laws.specs.StepsLeft.{goes_on}
use Rattle.hp_client.proofs.Standing.{no_step, core_nearer, unanswered}
use Rattle.hp_client.proofs.rounds.advance.Goals as goal

pub unreachable-requires : goal.unreachable-requires
unreachable-requires c =
    let there = c.requires (unanswered c.args.asked.now.answer (sym c.is_some.ensures ∙ c.if-is_some.false)) in
    let law = c.a_call_in_flight_makes_its_step.ensures (as_state c.args.core.now) c.is_reached.ensures in
    no_step c.args.core.now c.step.new.self c.args.asked.now.task c.in_ok-step.field-0 law there c.in_ok-step.ensures.row
    c.in_default.not-Moved c.in_default.not-Ended c.in_default.not-Blocked

pub returns-in-Moved-clause-nearer : goal.returns-in-Moved-clause-nearer
returns-in-Moved-clause-nearer c =
    let law = c.steps_run_out.ensures (as_state c.args.core.now) c.is_reached.ensures in
    let h = core_nearer c.args.core.now c.step.new.self c.args.asked.now.task c.in_ok-step.field-0 law c.in_ok-step.ensures.row in
    let e : goes_on c.in_ok-step.field-0 ≡ 1 = ap goes_on c.in-Moved.is in
    omega (arith, h, e)

pub returns-in-Ended-clause-nearer : goal.returns-in-Ended-clause-nearer
returns-in-Ended-clause-nearer c =
    let law = c.steps_run_out.ensures (as_state c.args.core.now) c.is_reached.ensures in
    let h = core_nearer c.args.core.now c.step.new.self c.args.asked.now.task c.in_ok-step.field-0 law c.in_ok-step.ensures.row in
    let e : goes_on c.in_ok-step.field-0 ≡ 1 = ap goes_on c.in-Ended.is in
    omega (arith, h, e)
