use Rattle.hp_pool_tests.proofs.cuts.a_journal_is_cut.Given as goal

abbrev pub ghosts-cut_and_ended : goal.ghosts-cut_and_ended
ghosts-cut_and_ended g a = record { name = a.blank.name; parts = a.blank.parts }
