use Rattle.hp_accounts.proofs.Reserving.{always_careful}
use Rattle.hp_accounts.proofs.pages_stay_reserved.Goals as goal

pub returns : goal.returns
returns c = λ g frames es m careful. (always_careful g frames es m careful).pages
