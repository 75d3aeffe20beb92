use Rattle.hp_laws.proofs.Telling.{call_steps_on}
use Rattle.hp_laws.proofs.a_call_in_flight_makes_its_step.Goals as goal

pub returns : goal.returns
returns c = λ s reached t grant c o after e row. call_steps_on s t grant c o after reached e row
