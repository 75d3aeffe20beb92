use Rattle.std.proofs.Common.{ap, ◌∙◌}
use Rattle.hp_machine.specs.declared.outcome.Outcome.TheVariants.{Ended, Moved}
use Rattle.hp_shared.specs.States.{SeatState}
use Rattle.hp_shared.proofs.Gains.{answered_step, gained_ended, gained_moved}
use Rattle.hp_shared.proofs.calls.go_on.Goals as goal

pub steps-preserved : goal.steps-preserved
steps-preserved g c =
    let step = rw c.in-Ok-Moved.field-0-is at c.in-Ok-Moved.ensures.seat in
    let list = ap (λ (s : SeatState). s.list) step.1 in record {
      seat = ap (λ (s : SeatState). s.task) step.1 ∙ c.steps.invariant.seat;
      task = c.steps.invariant.task;
      earlier = ap (λ (s : SeatState). s.earlier) step.1 ∙ c.steps.invariant.earlier;
      moved =
          gained_moved c.args.seat.now.task c.steps.seat.task c.args.seat.now.list c.steps.seat.list c.step.new.seat.list
          step.0 c.grant-grant.result c.in-Ok-Moved.phase c.steps.invariant.seat c.steps.invariant.moved list;
      answered =
          answered_step (g.G.Gate.may_answer c.args.gate.now) c.args.seat.now.list c.steps.seat.list c.step.new.seat.list step.0
          c.steps.seat.task c.phase.result c.grant-grant.result (Moved c.in-Ok-Moved.phase) c.steps.invariant.answered c.phase.ensures
          c.grant-grant.ensures.answer list;
    }

pub returns-in-Ok-Ended-clause-answered : goal.returns-in-Ok-Ended-clause-answered
returns-in-Ok-Ended-clause-answered g c =
    let step = rw c.in-Ok-Ended.field-0-is at c.in-Ok-Ended.ensures.seat in
    answered_step (g.G.Gate.may_answer c.args.gate.now) c.args.seat.now.list c.steps.seat.list c.step.new.seat.list step.0
    c.steps.seat.task c.phase.result c.grant-grant.result (Ended c.in-Ok-Ended.answer) c.steps.invariant.answered c.phase.ensures
    c.grant-grant.ensures.answer (ap (λ (s : SeatState). s.list) step.1)

pub returns-in-Ok-Ended-clause-ok : goal.returns-in-Ok-Ended-clause-ok
returns-in-Ok-Ended-clause-ok g c =
    let step = rw c.in-Ok-Ended.field-0-is at c.in-Ok-Ended.ensures.seat in
    gained_ended c.args.seat.now.task c.steps.seat.task c.args.seat.now.list c.steps.seat.list c.step.new.seat.list step.0
    c.grant-grant.result c.in-Ok-Ended.answer c.steps.invariant.seat c.steps.invariant.moved (ap (λ (s : SeatState). s.list) step.1)
