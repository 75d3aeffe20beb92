use Rattle.hp_pool_tests.proofs.asking.a_call_gone_on_with_asks_from_where_it_stands.Given as goal

abbrev pub ghosts-resumed : goal.ghosts-resumed
ghosts-resumed g a = record { name = a.blank.name; parts = a.blank.parts }
