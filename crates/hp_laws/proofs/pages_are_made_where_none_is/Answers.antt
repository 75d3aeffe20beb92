use Rattle.hp_laws.proofs.Apart.{bare_where_made}
use Rattle.hp_laws.proofs.pages_are_made_where_none_is.Goals as goal

pub returns : goal.returns
returns c = bare_where_made
