use Rattle.std.proofs.Common.{ap}
use Rattle.hp_shared.specs.States.{SeatState}
use Rattle.hp_shared.proofs.Gains.{answered_begun, call_went_on}
use Rattle.hp_shared.proofs.calls.call.Goals as goal

pub returns-in-Ok-Begun-clause-ok : goal.returns-in-Ok-Begun-clause-ok
returns-in-Ok-Begun-clause-ok g c =
    let begun = rw c.in-Ok-Begun.field-0-is at c.in-Ok-Begun.ensures.seat in
    call_went_on c.go_on.result c.args.seat.now.task c.task.result c.args.op c.args.seat.now.list c.attempt.new.seat.list
    c.go_on.new.seat.list begun.0 c.task.ensures (ap (λ (s : SeatState). s.list) begun.1)
    (rw (ap (λ (s : SeatState). s.task) begun.1) at c.go_on.ensures.ok)

pub returns-in-Ok-Begun-clause-answered : goal.returns-in-Ok-Begun-clause-answered
returns-in-Ok-Begun-clause-answered g c =
    let begun = rw c.in-Ok-Begun.field-0-is at c.in-Ok-Begun.ensures.seat in
    answered_begun (g.G.Gate.may_answer c.args.gate.now) c.args.seat.now.list c.attempt.new.seat.list c.go_on.new.seat.list begun.0
    c.task.result c.args.op (ap (λ (s : SeatState). s.list) begun.1) c.go_on.ensures.answered
