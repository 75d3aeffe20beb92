use Rattle.hp_laws.proofs.Waiting.{blocked_by_holder}
use Rattle.hp_laws.proofs.a_blocked_step_waits_for_a_holder.Goals as goal

pub returns : goal.returns
returns c = λ s reached t grant u after. blocked_by_holder s t grant u after reached
