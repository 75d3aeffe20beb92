use Rattle.hp_laws.proofs.Served.{touch_never_lacks}
use Rattle.hp_laws.proofs.a_touch_that_misses_nothing_never_lacks_a_frame.Goals as goal

pub returns : goal.returns
returns c = λ s reached t p rest n last answer after. touch_never_lacks s t p rest n last answer after reached
