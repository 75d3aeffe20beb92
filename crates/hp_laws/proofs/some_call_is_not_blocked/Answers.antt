use Rattle.hp_laws.proofs.Waiting.{some_call_goes_on}
use Rattle.hp_laws.proofs.some_call_is_not_blocked.Goals as goal

pub returns : goal.returns
returns c = λ s reached t c. some_call_goes_on s t c reached
