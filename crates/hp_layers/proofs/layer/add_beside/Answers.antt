use Rattle.hp_workers.proofs.Slots.{empty_own}
use Rattle.hp_layers.specs.Layers.{IsBehind}
use Rattle.hp_layers.proofs.layer.add_beside.Goals as goal

pub returns-then-end-layer-clause-own : goal.returns-then-end-layer-clause-own
returns-then-end-layer-clause-own g c =
    empty_own (IsBehind (g.M.Turns.turn c.args.system.now) (g.M.Turns.alike c.args.system.now) c.args.layer.now c.args.end) 0 c.new.result.items
    c.new.ensures.items
