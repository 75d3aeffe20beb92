use Rattle.hp_memory_tests.proofs.tell_stores.Given as goal

abbrev pub ghosts-tell : goal.ghosts-tell
ghosts-tell g a = record { name = a.blank.name; parts = a.blank.parts }
