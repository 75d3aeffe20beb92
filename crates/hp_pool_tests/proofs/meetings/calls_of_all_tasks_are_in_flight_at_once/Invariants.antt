use Rattle.hp_pool_tests.proofs.meetings.calls_of_all_tasks_are_in_flight_at_once.Given as goal

abbrev pub ghosts-a_round : goal.ghosts-a_round
ghosts-a_round g a = record { name = a.blank.name; parts = a.blank.parts }
