use Rattle.hp_workers.proofs.Slots.{empty_own}
use Rattle.hp_layers.specs.Named.{IsEachBehind}
use Rattle.hp_layers.proofs.counting.add_beside.Goals as goal

pub returns-then-end-layer-clause-own : goal.returns-then-end-layer-clause-own
returns-then-end-layer-clause-own g c =
    empty_own (IsEachBehind (g.M.Ends.step c.args.system.now) c.args.layer.now c.args.end) 0 c.new.result.items c.new.ensures.items
