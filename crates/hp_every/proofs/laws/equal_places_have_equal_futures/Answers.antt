use Rattle.hp_every.proofs.Futures.{alike_words}
use Rattle.hp_every.proofs.Sames.{equal_future}
use Rattle.hp_every.proofs.laws.equal_places_have_equal_futures.Goals as goal

pub returns : goal.returns
returns c = record { alike = alike_words; futures = equal_future }
