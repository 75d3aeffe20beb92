use Rattle.hp_pool_tests.proofs.quota.a_running_pool_keeps_its_quota.Given as goal

abbrev pub ghosts-a_map_of_two : goal.ghosts-a_map_of_two
ghosts-a_map_of_two g a = record { name = a.blank.name; parts = a.blank.parts }
