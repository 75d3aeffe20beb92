use Rattle.hp_core.specs.Duplicates.{IsSameTable}
use Rattle.hp_core.proofs.Duplicates.{one_more}
use Rattle.hp_core.proofs.duplicate.copy_spaces.Goals as goal

pub loop-space-preserved : goal.loop-space-preserved
loop-space-preserved c =
    one_more IsSameTable c.args.spaces.now c.loop-space.copies.items c.push.new.self.items c.loop-space.space-index c.space-item.result _
    c.loop-space-test.true c.space-item.is c.loop-space.invariant c.in_ok-copy_space.ensures c.in_ok-push.ensures.items
