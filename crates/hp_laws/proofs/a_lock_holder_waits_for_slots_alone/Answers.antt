use Rattle.hp_laws.proofs.Waiting.{lock_holder_waits}
use Rattle.hp_laws.proofs.a_lock_holder_waits_for_slots_alone.Goals as goal

pub returns : goal.returns
returns c = λ s reached t f grant u after. lock_holder_waits s t f grant u after reached
