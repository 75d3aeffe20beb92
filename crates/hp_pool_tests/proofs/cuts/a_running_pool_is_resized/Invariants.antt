use Rattle.hp_pool_tests.proofs.cuts.a_running_pool_is_resized.Given as goal

abbrev pub ghosts-resized : goal.ghosts-resized
ghosts-resized g a = record { name = a.blank.name; parts = a.blank.parts }
