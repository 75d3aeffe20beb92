use Rattle.hp_laws.proofs.Served.{touch_takes}
use Rattle.hp_laws.proofs.a_touch_that_misses_nothing_takes_a_frame.Goals as goal

pub returns : goal.returns
returns c = λ s reached t grant p o after. touch_takes s t grant p o after reached
