use Rattle.hp_pool_tests.proofs.kills.a_kill_wakes_over_holds_that_halt.Given as goal

abbrev pub ghosts-a_halting_pool_of_three : goal.ghosts-a_halting_pool_of_three
ghosts-a_halting_pool_of_three g a = record { name = a.blank.name; parts = a.blank.parts }
