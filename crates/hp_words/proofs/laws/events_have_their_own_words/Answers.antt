use Rattle.hp_words.proofs.Named.{events_own}
use Rattle.hp_words.proofs.laws.events_have_their_own_words.Goals as goal

pub returns : goal.returns
returns c = events_own
