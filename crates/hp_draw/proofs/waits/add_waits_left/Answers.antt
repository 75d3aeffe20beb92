use Rattle.hp_draw.proofs.Holding.{no_left, one_left}
use Rattle.hp_draw.proofs.waits.add_waits_left.Goals as goal

pub loop-place-init : goal.loop-place-init
loop-place-init c = no_left c.args.at c.args.before.now c.args.now.now c.args.waits.now.items

pub loop-place-preserved : goal.loop-place-preserved
loop-place-preserved c =
    one_left c.args.at c.args.before.now c.args.now.now c.loop-place.place c.args.waits.now.items c.loop-place.waits.items
    c.add_wait_left.new.waits.items c.loop-place.invariant c.in_ok-add_wait_left.ensures
