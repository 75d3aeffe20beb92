use Rattle.hp_pool_tests.proofs.histories.a_missing_seat_is_told.Given as goal

abbrev pub ghosts-ends : goal.ghosts-ends
ghosts-ends g a = record { name = a.blank.name; parts = a.blank.parts }
