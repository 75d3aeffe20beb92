use Rattle.hp_words.proofs.Named.{outcomes_own}
use Rattle.hp_words.proofs.laws.outcomes_have_their_own_words.Goals as goal

pub returns : goal.returns
returns c = outcomes_own
