use Rattle.hp_pool_tests.proofs.kills.a_kill_wakes_a_store_that_waits.Given as goal

abbrev pub ghosts-a_pool_of_three : goal.ghosts-a_pool_of_three
ghosts-a_pool_of_three g a = record { name = a.blank.name; parts = a.blank.parts }
