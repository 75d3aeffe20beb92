use Rattle.hp_pool_tests.proofs.histories.resizes_and_kills_are_refused.Given as goal

abbrev pub ghosts-resizes_and_kills : goal.ghosts-resizes_and_kills
ghosts-resizes_and_kills g a = record { name = a.blank.name; parts = a.blank.parts }
