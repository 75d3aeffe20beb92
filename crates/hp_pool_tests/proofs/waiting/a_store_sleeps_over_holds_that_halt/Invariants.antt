use Rattle.hp_pool_tests.proofs.waiting.a_store_sleeps_over_holds_that_halt.Given as goal

abbrev pub ghosts-a_halting_pool_of_two : goal.ghosts-a_halting_pool_of_two
ghosts-a_halting_pool_of_two g a = record { name = a.blank.name; parts = a.blank.parts }
