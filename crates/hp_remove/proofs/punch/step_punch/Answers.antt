use Rattle.hp_remove.proofs.punch.step_punch.Goals as goal

pub returns-in-Delete-clause-memory : goal.returns-in-Delete-clause-memory
returns-in-Delete-clause-memory c = rw c.in-Delete.is c.from_delete.ensures.memory
