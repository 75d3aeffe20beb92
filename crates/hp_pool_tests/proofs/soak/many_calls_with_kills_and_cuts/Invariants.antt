use Rattle.hp_pool_tests.proofs.soak.many_calls_with_kills_and_cuts.Given as goal

abbrev pub ghosts-soak : goal.ghosts-soak
ghosts-soak g a = record { name = a.blank.name; parts = a.blank.parts }
