use Rattle.hp_every.proofs.Paths.{one_place}
use Rattle.hp_every.proofs.laws.events_lead_to_one_place.Goals as goal

pub returns : goal.returns
returns c = one_place
