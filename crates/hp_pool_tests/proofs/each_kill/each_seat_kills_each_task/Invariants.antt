use Rattle.hp_pool_tests.proofs.each_kill.each_seat_kills_each_task.Given as goal

abbrev pub ghosts-a_pool : goal.ghosts-a_pool
ghosts-a_pool g a = record { name = a.blank.name; parts = a.blank.parts }
