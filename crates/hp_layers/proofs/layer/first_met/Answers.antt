use Rattle.std.proofs.Common.{arith}
use Rattle.hp_layers.proofs.Layering.{none_met}
use Rattle.hp_layers.proofs.layer.first_met.Goals as goal

pub returns-clause-none : goal.returns-clause-none
returns-clause-none g c =
    λ _. none_met (g.M.Turns.meets c.args.system.now) c.args.layer.now c.loop-place.place (omega arith) c.loop-place.invariant
