use Rattle.hp_accounts.proofs.Balancing.{always_balanced}
use Rattle.hp_accounts.proofs.the_books_balance.Goals as goal

pub returns : goal.returns
returns c = λ g frames es m. always_balanced g frames es m
