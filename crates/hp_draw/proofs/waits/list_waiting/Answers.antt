use Rattle.hp_draw.proofs.Holding.{no_waiting, one_waiting}
use Rattle.hp_draw.proofs.waits.list_waiting.Goals as goal

pub loop-number-init : goal.loop-number-init
loop-number-init c = no_waiting c.args.core.now c.args.at c.args.holders.now c.args.before.now _ c.clear.ensures.items

pub loop-number-preserved : goal.loop-number-preserved
loop-number-preserved c =
    one_waiting c.args.core.now c.args.at c.args.holders.now c.args.before.now c.loop-number.number c.new.result
    c.loop-number.now.items c.push.new.self.items c.next_waiting.result c.new.ensures c.loop-number.invariant c.next_waiting.ensures
    c.in_ok-push.ensures.items
