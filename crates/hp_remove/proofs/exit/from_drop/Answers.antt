use Rattle.hp_remove.proofs.Leading.{drop_row}
use Rattle.hp_remove.proofs.exit.from_drop.Goals as goal

pub returns-clause-row : goal.returns-clause-row
returns-clause-row c = drop_row _ _ _ _ _ _ c.drop_mapping.ensures.after c.from_start.ensures.row
