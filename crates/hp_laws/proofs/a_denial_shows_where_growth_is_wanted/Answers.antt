use Rattle.hp_laws.proofs.Denials.{same_step, other_step}
use Rattle.hp_laws.proofs.a_denial_shows_where_growth_is_wanted.Goals as goal

pub returns : goal.returns
returns c = record { unwanted = same_step; wanted = other_step }
