use Rattle.hp_pool_tests.proofs.crossings.calls_of_a_round_overlap.Given as goal

abbrev pub ghosts-in_threads : goal.ghosts-in_threads
ghosts-in_threads g a = record { name = a.blank.name; parts = a.blank.parts }
