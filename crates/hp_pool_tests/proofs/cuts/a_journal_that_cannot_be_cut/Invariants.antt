use Rattle.hp_pool_tests.proofs.cuts.a_journal_that_cannot_be_cut.Given as goal

abbrev pub ghosts-a_pool_of_two : goal.ghosts-a_pool_of_two
ghosts-a_pool_of_two g a = record { name = a.blank.name; parts = a.blank.parts }
