use Rattle.std.proofs.Common.{sym, ◌∙◌}
use Rattle.hp_race.specs.Calls.{MayKill}
use Rattle.hp_race.proofs.Making.{call_made, call_strayed, struck}
use Rattle.hp_race.proofs.racer.make_call.Goals as goal

pub returns-then-not-may_end-clause-call : goal.returns-then-not-may_end-clause-call
returns-then-not-may_end-clause-call g c =
    call_strayed c.args.course.now.draws.kill c.args.course.now.config.tasks c.args.seat.now.task c.strike.new.seat.task c.args.gone
    c.is_mortal.result c.may_end.result c.args.op c.in-Ok.reply c.args.seat.now.list c.strike.new.seat.list c.call.new.seat.list
    c.list-before.result.now c.list-after.result.now c.strike.ensures.task c.list-before.ensures c.list-after.ensures
    c.is_mortal.ensures c.strike.ensures.never
    (struck c.strike.result (MayKill c.args.course.now.config.tasks c.args.seat.now.list c.strike.new.seat.list)
    (sym c.is_err.ensures.value ∙ c.if-is_err.false) c.strike.ensures.kill)
    c.in-Ok.ensures.ok c.may_end.ensures c.if-not-may_end.true

pub returns-clause-call : goal.returns-clause-call
returns-clause-call g c =
    call_made c.args.course.now.draws.kill c.args.course.now.config.tasks c.args.seat.now.task c.strike.new.seat.task c.args.gone
    c.is_mortal.result c.may_end.result c.args.op c.in-Ok.reply c.args.seat.now.list c.strike.new.seat.list c.call.new.seat.list
    c.list-before.result.now c.list-after.result.now c.strike.ensures.task c.list-before.ensures c.list-after.ensures
    c.is_mortal.ensures c.strike.ensures.never
    (struck c.strike.result (MayKill c.args.course.now.config.tasks c.args.seat.now.list c.strike.new.seat.list)
    (sym c.is_err.ensures.value ∙ c.if-is_err.false) c.strike.ensures.kill)
    c.in-Ok.ensures.ok c.may_end.ensures c.if-not-may_end.false c.met.result c.met.ensures
