use Rattle.hp_shared.proofs.Lists.{begins_with_at}
use Rattle.hp_shared.proofs.order.begins_with.Goals as goal

pub returns-then-used-list : goal.returns-then-used-list
returns-then-used-list c =
    begins_with_at c.args.list.now c.args.used c.index-list-used.result c.args.entry.now c.same_entry.result c.if-used-list.true
    c.index-list-used.is c.same_entry.ensures
