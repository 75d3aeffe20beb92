use Rattle.std.proofs.Common.{refl}
use Rattle.hp_laws.proofs.Served.{promised_served}
use Rattle.hp_laws.proofs.a_promised_touch_is_served.Goals as goal

pub returns : goal.returns
returns c =
    λ s g frames ends later begins past t op look f i answer h. promised_served g frames ends later begins past t op
    look f i answer (refl, h.1, h.2)
