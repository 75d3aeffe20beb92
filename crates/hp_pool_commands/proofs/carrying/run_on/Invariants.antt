use Rattle.hp_pool_commands.proofs.carrying.run_on.Given as goal

abbrev pub ghosts-run_on_pool : goal.ghosts-run_on_pool
ghosts-run_on_pool g a = record { name = a.blank.name; parts = a.blank.parts }
