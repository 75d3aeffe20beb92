use Rattle.hp_layers.proofs.Portions.{part_valid}
use Rattle.hp_layers.proofs.layer.ahead_of.Goals as goal

pub made_ahead-requires-clause-each : goal.made_ahead-requires-clause-each
made_ahead-requires-clause-each g c κs within =
    part_valid (g.M.Turns.valid c.args.system.now) c.args.layer.now c.requires.layer c.args.begin c.part_end.result c.part_end.ensures.from
    c.part_end.ensures.within
