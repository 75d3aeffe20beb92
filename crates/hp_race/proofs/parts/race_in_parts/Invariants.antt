use Rattle.hp_race.proofs.parts.race_in_parts.Given as goal

abbrev pub ghosts-parts_by : goal.ghosts-parts_by
ghosts-parts_by g a = record { name = a.blank.name; parts = a.blank.parts }
