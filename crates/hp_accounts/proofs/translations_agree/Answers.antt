use Rattle.hp_accounts.proofs.Keeping.{always_kept}
use Rattle.hp_accounts.proofs.translations_agree.Goals as goal

pub returns : goal.returns
returns c = λ g frames es m. (always_kept g frames es m).agree
