use Rattle.hp_hunt.proofs.Answered.{answered, not_answered}
use Rattle.hp_hunt.proofs.answering.is_answered.Goals as goal

pub returns-in_default : goal.returns-in_default
returns-in_default c =
    λ before were. not_answered c.args.sought before (record { event = c.args.event.now; outcome = c.args.outcome.now; core = c.args.core.now })
    (c.end_of.ensures.none c.in_default.is)

pub returns : goal.returns
returns c =
    λ before were. answered c.args.sought before (record { event = c.args.event.now; outcome = c.args.outcome.now; core = c.args.core.now })
    c.args.calls.now.tasks.items c.in-Some.end.task c.in-Some.end.answer c.of.result c.is_sought_end.result were c.of.ensures
    c.in-Some.ensures.some.0 c.in-Some.ensures.some.1 c.in-Some.ensures.one c.is_sought_end.ensures
