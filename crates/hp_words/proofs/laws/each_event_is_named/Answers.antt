use Rattle.hp_words.proofs.Named.{named}
use Rattle.hp_words.proofs.laws.each_event_is_named.Goals as goal

pub returns : goal.returns
returns c = named
