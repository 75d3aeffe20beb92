use Rattle.std.proofs.Common.{ap}
use Rattle.hp_base.specs.Text.{Sizes}
use Rattle.hp_hunt.proofs.Watched.{none_held_up, none_more}
use Rattle.hp_hunt.proofs.watching.is_any_held_up.Goals as goal

pub loop-place-preserved : goal.loop-place-preserved
loop-place-preserved c =
    none_more c.args.core.now c.loop-place.place c.new.result c.is_held_up.result c.if-is_held_up.false c.new.ensures c.is_held_up.ensures
    c.loop-place.invariant

pub returns : goal.returns
returns c =
    none_held_up c.args.core.now c.loop-place.place c.config-tasks.result.tasks c.is_reached.ensures c.always.ensures.config
    (ap (λ (z : Sizes). z.tasks) c.config-tasks.ensures) c.loop-place-test.false c.loop-place.invariant
