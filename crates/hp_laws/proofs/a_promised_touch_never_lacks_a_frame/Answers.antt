use Rattle.std.proofs.Common.{refl}
use Rattle.hp_laws.proofs.Served.{promised_never_lacks}
use Rattle.hp_laws.proofs.a_promised_touch_never_lacks_a_frame.Goals as goal

pub returns : goal.returns
returns c =
    λ s g frames ends later asks past t grant last p answer h. promised_never_lacks g frames ends later asks past t
    grant last p answer (refl, h.1, h.2)
