use Rattle.hp_race.proofs.racing.race_trace.Given as goal

abbrev pub ghosts-trace_by : goal.ghosts-trace_by
ghosts-trace_by g a = record { name = a.blank.name; parts = a.blank.parts }
