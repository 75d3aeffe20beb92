use Rattle.hp_draw.proofs.Runs.{no_stay, one_stay}
use Rattle.hp_draw.proofs.sketch.add_stays_in.Goals as goal

pub loop-column-init : goal.loop-column-init
loop-column-init c = no_stay c.args.at c.args.open_stays.now c.args.stays.now.items

pub loop-column-preserved : goal.loop-column-preserved
loop-column-preserved c =
    one_stay c.args.at c.args.open_stays.now c.loop-column.column c.args.stays.now.items c.loop-column.stays.items
    c.add_stay_in.new.stays.items c.loop-column.invariant c.in_ok-add_stay_in.ensures
