use Rattle.hp_laws.proofs.Waiting.{slot_holder_free}
use Rattle.hp_laws.proofs.a_slot_holder_is_never_blocked.Goals as goal

pub returns : goal.returns
returns c = λ s reached t place. slot_holder_free s t place reached
