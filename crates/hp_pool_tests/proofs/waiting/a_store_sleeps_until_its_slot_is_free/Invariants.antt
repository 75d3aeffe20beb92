use Rattle.hp_pool_tests.proofs.waiting.a_store_sleeps_until_its_slot_is_free.Given as goal

abbrev pub ghosts-a_pool_waits : goal.ghosts-a_pool_waits
ghosts-a_pool_waits g a = record { name = a.blank.name; parts = a.blank.parts }
