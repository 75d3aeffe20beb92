use Rattle.hp_pool_tests.proofs.asking.a_gate_refuses_growth.Given as goal

abbrev pub ghosts-a_pool_of_two : goal.ghosts-a_pool_of_two
ghosts-a_pool_of_two g a = record { name = a.blank.name; parts = a.blank.parts }
