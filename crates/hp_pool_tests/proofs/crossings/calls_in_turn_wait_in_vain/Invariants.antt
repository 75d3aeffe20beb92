use Rattle.hp_pool_tests.proofs.crossings.calls_in_turn_wait_in_vain.Given as goal

abbrev pub ghosts-a_pool_of_two : goal.ghosts-a_pool_of_two
ghosts-a_pool_of_two g a = record { name = a.blank.name; parts = a.blank.parts }
