use Rattle.hp_race.proofs.racer.make_range.Goals as goal

pub run_racers-requires-clause-set : goal.run_racers-requires-clause-set
run_racers-requires-clause-set g c κs within = rw c.deref_mut.ensures.value c.in_ok-racers.ensures.racers
